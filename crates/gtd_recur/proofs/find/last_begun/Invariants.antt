-- After the day where the search stands, up to the end, the start begins on no day.
use Rattle.std.proofs.Common.{pos, ◌+ℤ◌, ◌-ℤ◌, unsigned_abs}
use Rattle.gtd_recur.proofs.SearchLemmas.{IsLastSoFar}
use Rattle.gtd_recur.proofs.find.last_begun.Given as goal

abbrev pub invariant-loop-found : goal.invariant-loop-found
invariant-loop-found l = IsLastSoFar l.start l.low l.end l.found

abbrev pub decreases-loop-found : goal.decreases-loop-found
decreases-loop-found l = unsigned_abs ((l.found +ℤ pos 1) -ℤ l.low)
