-- Each rule so far has its holidays.
use Rattle.gtd_hours_known.specs.Rules.{AreWithHolidays}
use Rattle.gtd_hours_known.proofs.rules.rules_with.Given as goal

abbrev pub invariant-loop-rule : goal.invariant-loop-rule
invariant-loop-rule l = AreWithHolidays l.from l.days l.yielded l.made.items
