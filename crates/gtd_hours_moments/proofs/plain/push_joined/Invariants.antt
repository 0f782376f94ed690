-- With the ranges that are left, the output becomes that of all ranges.
use Rattle.std.proofs.Common.{◌≡◌, ◌++◌, length, true}
use Rattle.gtd_hours_moments.specs.Plain.{joined}
use Rattle.gtd_hours_moments.proofs.plain.push_joined.Given as goal

abbrev pub invariant-loop-range : goal.invariant-loop-range
invariant-loop-range l = l.out.items ++ joined l.is_first l.rest ≡ l.initial.out.items ++ joined true l.ranges

abbrev pub decreases-loop-range : goal.decreases-loop-range
decreases-loop-range l = length l.rest
