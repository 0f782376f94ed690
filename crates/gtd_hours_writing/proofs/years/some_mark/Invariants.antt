-- The marks that were passed are none.
use Rattle.std.proofs.Common.{◌≡◌, length}
use Rattle.gtd_hours_writing.specs.Years.{some_mark}
use Rattle.gtd_hours_writing.proofs.years.some_mark.Given as goal

abbrev pub invariant-loop-mark : goal.invariant-loop-mark
invariant-loop-mark l = some_mark l.rest ≡ some_mark l.marks

abbrev pub decreases-loop-mark : goal.decreases-loop-mark
decreases-loop-mark l = length l.rest
