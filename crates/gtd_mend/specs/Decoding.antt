-- The text of a file's bytes: UTF-8 without a byte order mark.
use Rattle.std.specs.Prelude.{◌+◌, ◌*◌, ℕ, Bool, true, false, List, [], ◌∷◌, drop, Option, Some, None, option_map}
use Rattle.std.specs.Prelude.{if◌then◌else◌}
use Rattle.std.specs.Char.Utf16.{has_unpaired_surrogate, utf16_lossy_chars}
use Rattle.std.specs.Str.{encode_utf8_all}
use Rattle.gtd_faults.specs.Hints.{begins_with}
use Rattle.gtd_mend.specs.declared.change.FileChange.{FileChange}
use Rattle.gtd_mend.specs.declared.change.FileChange.TheVariants.{Utf16, ByteOrderMark}

-- a unit of UTF-16, of two bytes: the greater part stands first, or last
abbrev pub unit_of : Bool → ℕ → ℕ → ℕ
unit_of true a b = a * 256 + b
unit_of false a b = b * 256 + a

-- the units that bytes are, two and two, if none is left over
abbrev pub units_of : Bool → List ℕ → Option (List ℕ)
units_of first [] = Some []
units_of first (a ∷ []) = None
units_of first (a ∷ b ∷ bytes) = option_map (λ units. unit_of first a b ∷ units) (units_of first bytes)

-- the text of units in UTF-8, if each half of a pair has its other half
abbrev pub text_of_units : Option (List ℕ) → Option (List ℕ)
text_of_units None = None
text_of_units (Some units) =
    if has_unpaired_surrogate units then None else Some (encode_utf8_all (utf16_lossy_chars units))

-- What a file is read as: what is changed for that, and its text. It is UTF-16 if it begins with a byte order mark of UTF-16,
-- and then it may have no text; otherwise it is UTF-8, with or without a byte order mark.
abbrev pub changes_by_mark : List ℕ → List FileChange
changes_by_mark bytes =
    if begins_with (255 ∷ 254 ∷ []) bytes then Utf16 ∷ []
    else if begins_with (254 ∷ 255 ∷ []) bytes then Utf16 ∷ []
    else if begins_with (239 ∷ 187 ∷ 191 ∷ []) bytes then ByteOrderMark ∷ []
    else []

abbrev pub text_of_file : List ℕ → Option (List ℕ)
text_of_file bytes =
    if begins_with (255 ∷ 254 ∷ []) bytes then text_of_units (units_of false (drop 2 bytes))
    else if begins_with (254 ∷ 255 ∷ []) bytes then text_of_units (units_of true (drop 2 bytes))
    else if begins_with (239 ∷ 187 ∷ 191 ∷ []) bytes then Some (drop 3 bytes)
    else Some bytes
