-- What stands in parentheses and in comments. Texts are lists of bytes, by their numbers in ASCII.
use Rattle.std.specs.Prelude.{ℕ, Bool, ◌&&◌, not, if◌then◌else◌, List, [], ◌∷◌, ◌+◌, ◌-◌, ◌==◌}
use Rattle.std.specs.Prelude.{Option, Some, None, option_map}

-- A place in a text stands in a comment or not, and in so many parentheses. So does the place after the next byte: a `"` begins
-- and ends a comment, and `(` and `)` count outside of comments alone.
abbrev pub quoted : Bool → ℕ → Bool
quoted comment byte = if byte == 34 then not comment else comment

abbrev pub nested : Bool → ℕ → ℕ → ℕ
nested comment depth byte =
    if comment then depth else if byte == 40 then depth + 1 else if byte == 41 then depth - 1 else depth

-- nothing is open at a place
abbrev pub is_free : Bool → ℕ → Bool
is_free comment depth = not comment && depth == 0

-- a `)` too many
abbrev pub is_too_many : Bool → ℕ → ℕ → Bool
is_too_many comment depth byte = is_free comment depth && byte == 41

-- The first place at which the text does not fit what is open: a `)` too many, or the end, if something is open there.
abbrev pub unnested : Bool → ℕ → List ℕ → Option ℕ
unnested comment depth [] = if is_free comment depth then None else Some 0
unnested comment depth (byte ∷ text) =
    if is_too_many comment depth byte then Some 0
    else option_map (λ place. place + 1) (unnested (quoted comment byte) (nested comment depth byte) text)
