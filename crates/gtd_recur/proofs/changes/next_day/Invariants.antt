-- Before the run that is searched next, the start begins on no day from the given one on.
use Rattle.std.proofs.Common.{◌-ℤ◌, unsigned_abs}
use Rattle.gtd_recur.proofs.ChangeLemmas.{IsSearched}
use Rattle.gtd_recur.proofs.changes.next_day.Given as goal

abbrev pub invariant-loop-days : goal.invariant-loop-days
invariant-loop-days l = IsSearched l.start l.day l.end l.days.from l.days.until

abbrev pub decreases-loop-days : goal.decreases-loop-days
decreases-loop-days l = unsigned_abs (l.end -ℤ l.days.from)
