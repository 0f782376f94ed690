-- What is told so far, and at the parts left, is what is told at all parts.
use Rattle.std.proofs.Common.{◌≡◌, ◌++◌, length}
use Rattle.gtd_hours_holiday_rules.specs.Parts.{told_of}
use Rattle.gtd_hours_holiday_rules.proofs.parts.told_of.Given as goal

abbrev pub invariant-loop-part : goal.invariant-loop-part
invariant-loop-part l = l.told.items ++ told_of l.rest ≡ told_of l.parts

abbrev pub decreases-loop-part : goal.decreases-loop-part
decreases-loop-part l = length l.rest
