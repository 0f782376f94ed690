-- The starts of a day are one step apart.
use Rattle.std.specs.Prelude.{◌≡◌, ◌⊎◌, ℕ, ◌+◌, ◌<◌, ◌≤◌, Bool, true, false, List, [], ◌∷◌, Some, ℤ, pos, ◌+ℤ◌}
use Rattle.gtd_core.specs.Limits.{day_seconds, last_second_of_day}
use Rattle.gtd_recur.specs.ClockSearch.{IsLastPassing, IsNextPassing}

-- the seconds that pass the test are this step apart, up to the last of a day
pub record IsStep (test : ℕ → Bool) (step : ℕ) : Type 0 where
  pub known : (step ≡ 60) ⊎ (step ≡ 3600)
  pub next : (k last : ℕ) → test k ≡ true → test last ≡ true → k < last → last < day_seconds → test (k + step) ≡ true
  pub between : (k j : ℕ) → test k ≡ true → k < j → j < k + step → test j ≡ false

-- the seconds that follow a given one, each a step after the one before, up to the last
abbrev pub Stepped : ℕ → ℤ → List ℤ → ℤ → Type 0
Stepped step b [] last = last ≡ b
Stepped step b (x ∷ xs) last = (x ≡ b +ℤ pos step) × Stepped step x xs last

-- the first and the last second of a day that pass the test, and the step between those that do
pub record AreClocks (test : ℕ → Bool) (first last step : ℕ) : Type 0 where
  pub begin : IsNextPassing test 0 (Some first)
  pub end : IsLastPassing test last_second_of_day (Some last)
  pub apart : IsStep test step

-- if the second lies after the first that passes the test and not after the last, the one before it passes
abbrev pub IsBehindOne : (ℕ → Bool) → ℕ → ℕ → ℕ → Type 0
IsBehindOne test first last clock = (k : ℕ) → clock ≡ k + 1 → first ≤ k → k < last → test k ≡ true
