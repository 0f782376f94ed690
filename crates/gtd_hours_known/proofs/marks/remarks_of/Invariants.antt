-- The places so far, and those of the rules left, are all.
use Rattle.std.proofs.Common.{◌≡◌, ◌++◌, length}
use Rattle.gtd_hours_known.specs.Marks.{remarks_of}
use Rattle.gtd_hours_known.proofs.marks.remarks_of.Given as goal

abbrev pub invariant-loop-rule : goal.invariant-loop-rule
invariant-loop-rule l = l.places.items ++ remarks_of l.rest ≡ remarks_of l.rules

abbrev pub decreases-loop-rule : goal.decreases-loop-rule
decreases-loop-rule l = length l.rest
