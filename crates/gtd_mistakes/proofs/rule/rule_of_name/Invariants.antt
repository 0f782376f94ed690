use Rattle.std.proofs.Common.{take}
use Rattle.gtd_mistakes.specs.declared.rule.TheConstants.{RULES}
use Rattle.gtd_mistakes.proofs.NameFacts.{NoneHas}
use Rattle.gtd_mistakes.proofs.rule.rule_of_name.Given as goal

-- none of the rules so far has the name
abbrev pub invariant-loop-rule : goal.invariant-loop-rule
invariant-loop-rule l = NoneHas l.name (take l.rule-index RULES)
