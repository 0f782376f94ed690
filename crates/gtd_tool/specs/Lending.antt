-- A writer's known bytes, told apart from those of another writer.
use Rattle.std.specs.Prelude.{ℕ, ◌-◌, List, ◌∷◌, length, Option, option_map}

-- The known bytes after a number that names a loan, and after how many of them there were before the last so many were taken.
abbrev pub marked : ℕ → ℕ → Option (List ℕ) → Option (List ℕ)
marked name taken known = option_map (λ bytes. name ∷ (length bytes - taken) ∷ bytes) known
