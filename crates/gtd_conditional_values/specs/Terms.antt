-- The terms of a condition.
use Rattle.std.specs.Prelude.{ℕ, Bool, ◌&&◌, ◌||◌, not, true, false, if◌then◌else◌, List, [], ◌∷◌, ◌+◌, ◌==◌}
use Rattle.std.specs.Char.{is_ascii_alphanumeric}
use Rattle.gtd_conditional_values.specs.Nesting.{is_free, nested, quoted}

-- a text does not begin with a letter or a digit
abbrev pub is_apart : List ℕ → Bool
is_apart [] = true
is_apart (byte ∷ text) = not (is_ascii_alphanumeric byte)

-- `AND` or `and`
abbrev pub is_and_word : ℕ → ℕ → ℕ → Bool
is_and_word a n d = (a == 65 && n == 78 && d == 68) || (a == 97 && n == 110 && d == 100)

-- a text begins with `AND` or `and`, and no letter or digit comes after it
abbrev pub begins_with_and : List ℕ → Bool
begins_with_and (a ∷ n ∷ d ∷ text) = is_and_word a n d && is_apart text
begins_with_and text = false

-- an `AND` or `and` that separates, if there is a letter or a digit directly before it or not
abbrev pub is_and : Bool → Bool → ℕ → List ℕ → Bool
is_and joined comment depth text = is_free comment depth && not joined && begins_with_and text

-- How many bytes a condition has before the first `AND` or `and` that separates: nothing is open there, and no letter or digit
-- stands directly before it or after it. All, if there is none. Whether there is a letter or digit before the text is given.
abbrev pub term_length : Bool → Bool → ℕ → List ℕ → ℕ
term_length joined comment depth [] = 0
term_length joined comment depth (byte ∷ text) =
    if is_and joined comment depth (byte ∷ text) then 0
    else term_length (is_ascii_alphanumeric byte) (quoted comment byte) (nested comment depth byte) text + 1
