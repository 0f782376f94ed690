-- From the given day on, before the day where the search stands, the start begins on no day.
use Rattle.std.proofs.Common.{◌-ℤ◌, unsigned_abs}
use Rattle.gtd_recur.proofs.SearchLemmas.{IsFirstSoFar}
use Rattle.gtd_recur.proofs.find.next_begun.Given as goal

abbrev pub invariant-loop-found : goal.invariant-loop-found
invariant-loop-found l = IsFirstSoFar l.start l.day l.end l.found

abbrev pub decreases-loop-found : goal.decreases-loop-found
decreases-loop-found l = unsigned_abs (l.end -ℤ l.found)
