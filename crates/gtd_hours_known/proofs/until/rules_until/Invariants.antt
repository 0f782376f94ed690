-- The years of each rule so far end with the known ones.
use Rattle.gtd_hours_known.specs.Until.{AreRulesUntil}
use Rattle.gtd_hours_known.proofs.until.rules_until.Given as goal

abbrev pub invariant-loop-rule : goal.invariant-loop-rule
invariant-loop-rule l = AreRulesUntil l.known l.marks l.yielded l.made.items
