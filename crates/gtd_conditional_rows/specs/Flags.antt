-- Lists of flags.
use Rattle.std.specs.Prelude.{◌+◌, ◌&&◌, ℕ, Bool, true, false, not, List, [], ◌∷◌}

-- the lists are the same
abbrev pub same_flag : Bool → Bool → Bool
same_flag true other = other
same_flag false other = not other

abbrev pub same_flags : List Bool → List Bool → Bool
same_flags [] [] = true
same_flags [] (b ∷ bs) = false
same_flags (a ∷ as') [] = false
same_flags (a ∷ as') (b ∷ bs) = same_flag a b && same_flags as' bs

-- how many of them are true
abbrev pub count_true : List Bool → ℕ
count_true [] = 0
count_true (true ∷ rest) = 1 + count_true rest
count_true (false ∷ rest) = count_true rest
