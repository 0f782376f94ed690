-- The own texts of the rules that were passed are hours.
use Rattle.std.proofs.Common.{length}
use Rattle.gtd_hours_grammar.specs.declared.fault.HoursFault.{HoursFault}
use Rattle.gtd_hours_known.specs.Rules.{AreAllStrict, IsRuleFault}
use Rattle.gtd_hours_known.proofs.checks.check_rules.Given as goal

abbrev pub invariant-loop-rule : goal.invariant-loop-rule
invariant-loop-rule l = record {
  strict : AreAllStrict l.rest → AreAllStrict l.rules;
  fault : (bad : HoursFault) → IsRuleFault l.rest bad → IsRuleFault l.rules bad;
}

abbrev pub decreases-loop-rule : goal.decreases-loop-rule
decreases-loop-rule l = length l.rest
