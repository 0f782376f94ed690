-- Lists of seconds in ascending order.
use Rattle.std.specs.Prelude.{◌≡◌, ◌⊎◌, List, [], ◌∷◌, ℤ, ◌<ℤ◌}

-- the list has the second
abbrev pub Has : List ℤ → ℤ → Type 0
Has [] b = ⊥
Has (x ∷ xs) b = (b ≡ x) ⊎ Has xs b

-- each is after the second
abbrev pub AllAfter : ℤ → List ℤ → Type 0
AllAfter b [] = Unit {0}
AllAfter b (x ∷ xs) = (b <ℤ x) × AllAfter b xs

-- each is before the second
abbrev pub AllBefore : ℤ → List ℤ → Type 0
AllBefore b [] = Unit {0}
AllBefore b (x ∷ xs) = (x <ℤ b) × AllBefore b xs

-- each is before all that follow it
abbrev pub IsAscending : List ℤ → Type 0
IsAscending [] = Unit {0}
IsAscending (x ∷ xs) = AllAfter x xs × IsAscending xs
