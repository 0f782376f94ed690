-- The rules that were passed have no holiday.
use Rattle.std.proofs.Common.{◌≡◌, length}
use Rattle.gtd_hours_known.specs.Rules.{first_holiday}
use Rattle.gtd_hours_known.proofs.checks.first_holiday.Given as goal

abbrev pub invariant-loop-rule : goal.invariant-loop-rule
invariant-loop-rule l = first_holiday l.rest ≡ first_holiday l.rules

abbrev pub decreases-loop-rule : goal.decreases-loop-rule
decreases-loop-rule l = length l.rest
