use Rattle.std.proofs.Common.{◌<◌, ◌≤◌, ℕ}
use Rattle.gtd_hours_search.specs.Forms.{Ends}
use Rattle.gtd_hours_search.proofs.weekdays.last_of.Given as goal

-- none of the weekdays so far
abbrev pub invariant-loop-weekday : goal.invariant-loop-weekday
invariant-loop-weekday l = (k : ℕ) → 1 ≤ k → k < l.weekday → Ends l.bits k → ⊥
