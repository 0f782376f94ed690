-- Marks of yes and no.
use Rattle.std.specs.Prelude.{◌≡◌, ◌↔◌, ◌⊎◌, ◌<◌, ◌≤◌, ℕ, Bool, true, false, List, get_or}

-- the marks from one on now say yes, before another; the others say what they did
abbrev pub AreMarked : List Bool → List Bool → ℕ → ℕ → Type 0
AreMarked old now first until =
    (k : ℕ) → (get_or now k false ≡ true) ↔ ((get_or old k false ≡ true) ⊎ ((first ≤ k) × (k < until)))

-- the mark says this, and none before it does, from one on and before another
pub record IsFirstMark (marks : List Bool) (first until : ℕ) (says : Bool) (place : ℕ) : Type 0 where
  pub after : first ≤ place
  pub before : place < until
  pub here : get_or marks place false ≡ says
  pub earlier : (k : ℕ) → first ≤ k → k < place → get_or marks k false ≡ says → ⊥
