-- Texts as they are shown: only printable ASCII.
use Rattle.std.specs.Prelude.{◌++◌, ◌&&◌, not, ◌==◌, ◌/◌, ◌%◌, ℕ, Bool, false, List, [], ◌∷◌, codes}
use Rattle.std.specs.Prelude.{flat_map, if◌then◌else◌, nat_le}
use Rattle.std.specs.Fmt.{digit_glyph}

-- printable ASCII other than a backslash
abbrev pub is_printable : ℕ → Bool
is_printable byte = nat_le 32 byte && (nat_le byte 126 && not (byte == 92))

-- a byte: itself, or `\x` and two digits
abbrev pub shown_byte : ℕ → List ℕ
shown_byte byte =
    if is_printable byte then byte ∷ []
    else codes "\\x" ++ (digit_glyph false (byte / 16) ∷ digit_glyph false (byte % 16) ∷ [])

-- a text, byte by byte
abbrev pub printable : List ℕ → List ℕ
printable text = flat_map shown_byte text
