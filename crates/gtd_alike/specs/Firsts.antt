-- For each of many things an earlier one that is like it.
use Rattle.std.specs.Prelude.{◌≡◌, ◌<◌, ◌⊎◌, ℕ}

-- it is the thing itself, or an earlier one that is like it
abbrev pub IsEarlier : (ℕ → ℕ → Type 0) → ℕ → ℕ → Type 0
IsEarlier Alike first at = (first ≡ at) ⊎ ((first < at) × Alike first at)
