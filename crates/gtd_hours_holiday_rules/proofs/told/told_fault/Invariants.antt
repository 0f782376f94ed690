-- None of the places passed is that of the fault, so it is told by those that are left.
use Rattle.std.proofs.Common.{◌≡◌, length}
use Rattle.gtd_hours_holiday_rules.specs.Told.{told_fault}
use Rattle.gtd_hours_holiday_rules.proofs.told.told_fault.Given as goal

abbrev pub invariant-loop-first : goal.invariant-loop-first
invariant-loop-first l = told_fault l.bad l.rest ≡ told_fault l.bad l.told

abbrev pub decreases-loop-first : goal.decreases-loop-first
decreases-loop-first l = length l.rest
