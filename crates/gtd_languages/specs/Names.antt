-- Names in a list, and texts that are not of ASCII alone.
use Rattle.std.specs.Prelude.{ℕ, suc, ◌+◌, ◌/◌, ◌%◌, ◌==◌, List, [], ◌∷◌, if◌then◌else◌, nat_lt}

-- The bytes of a text of letters below U+0800: one for a letter of ASCII, and two for each other.
abbrev pub utf8 : List ℕ → List ℕ
utf8 [] = []
utf8 (letter ∷ text) =
    if nat_lt letter 128 then letter ∷ utf8 text else (192 + letter / 64) ∷ (128 + letter % 64) ∷ utf8 text

-- The name of a number in a list that begins with the name of `first`. The last name stands for all other numbers.
abbrev pub name_from : ℕ → List (List ℕ) → ℕ → List ℕ
name_from first [] n = []
name_from first (name ∷ []) n = name
name_from first (name ∷ next ∷ names) n = if n == first then name else name_from (suc first) (next ∷ names) n
