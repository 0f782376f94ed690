use Rattle.std.proofs.Common.{◌≡◌, ◌<◌, ◌≤◌, ℕ, false, get_or}
use Rattle.gtd_hours_holidays.proofs.days.first_marked.Given as goal

-- no mark so far says this
abbrev pub invariant-loop-place : goal.invariant-loop-place
invariant-loop-place l = (k : ℕ) → l.first ≤ k → k < l.place → get_or l.marks k false ≡ l.says → ⊥
