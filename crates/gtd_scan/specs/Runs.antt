-- Longest runs of bytes of one kind, such as letters and digits.
use Rattle.std.specs.Prelude.{ℕ, ◌≡◌, Bool, true, false, List, [], ◌∷◌}
use Rattle.std.specs.List.{list_all}

-- The first byte is such a one.
abbrev pub begins : (ℕ → Bool) → List ℕ → Bool
begins is [] = false
begins is (byte ∷ bytes) = is byte

-- These bytes are all of such a kind, and those that follow do not go on with it: they are a longest run.
abbrev pub IsRun : (ℕ → Bool) → List ℕ → List ℕ → Type 0
IsRun is run rest = (list_all is run ≡ true) × (begins is rest ≡ false)
