-- One line put.
use Rattle.std.specs.Prelude.{◌≡◌, ℕ, List, [], ◌∷◌}

-- the lines are one alone, of this kind
abbrev pub IsOnly : (List ℕ → Type 0) → List (List ℕ) → Type 0
IsOnly Is lines = (line : List ℕ) × Is line × (lines ≡ line ∷ [])
