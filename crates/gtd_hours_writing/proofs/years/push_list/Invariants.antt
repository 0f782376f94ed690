-- The list so far, with the years of the rest, is the whole one.
use Rattle.std.proofs.Common.{◌≡◌, length}
use Rattle.gtd_hours_writing.specs.Years.{with_list}
use Rattle.gtd_hours_writing.proofs.years.push_list.Given as goal

abbrev pub invariant-loop-selector : goal.invariant-loop-selector
invariant-loop-selector l = with_list l.out.items l.left l.rest ≡ with_list l.initial.out.items l.marks l.years

abbrev pub decreases-loop-selector : goal.decreases-loop-selector
decreases-loop-selector l = length l.rest
