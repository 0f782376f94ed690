use Rattle.std.proofs.Common.{◌-ℤ◌, unsigned_abs}
use Rattle.gtd_recur.proofs.OpenLemmas.{IsLookingBack}
use Rattle.gtd_recur.proofs.cover.first_look.Given as goal

-- on no day that was looked at the start begins
abbrev pub invariant-loop-days : goal.invariant-loop-days
invariant-loop-days l = IsLookingBack l.start l.low l.seen l.days.from l.days.until l.looked

abbrev pub decreases-loop-days : goal.decreases-loop-days
decreases-loop-days l = unsigned_abs (l.days.until -ℤ l.low)
