-- The list so far, with the days of the rest, is the whole one.
use Rattle.std.proofs.Common.{◌≡◌, length}
use Rattle.gtd_hours_writing.specs.Days.{with_easter}
use Rattle.gtd_hours_writing.proofs.days.push_easter_list.Given as goal

abbrev pub invariant-loop-days : goal.invariant-loop-days
invariant-loop-days l = with_easter l.out.items l.rest ≡ with_easter l.initial.out.items l.easter

abbrev pub decreases-loop-days : goal.decreases-loop-days
decreases-loop-days l = length l.rest
