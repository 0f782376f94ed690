-- Parts of a text with a sign between them.
use Rattle.std.specs.Prelude.{ℕ, ◌∷◌, ◌++◌, Bool, true, false, List, [], if◌then◌else◌}

abbrev pub is_nothing : List ℕ → Bool
is_nothing [] = true
is_nothing (byte ∷ bytes) = false

-- A text with one part more, before which the sign stands unless the text is empty. An empty part leaves it as it is.
abbrev pub joined_by : ℕ → List ℕ → List ℕ → List ℕ
joined_by sign text part =
    if is_nothing part then text else if is_nothing text then part else (text ++ sign ∷ []) ++ part

-- A space (32) stands between the parts of a rule, and a comma (44) between those of a list.
abbrev pub spaced : List ℕ → List ℕ → List ℕ
spaced = joined_by 32

abbrev pub listed : List ℕ → List ℕ → List ℕ
listed = joined_by 44
