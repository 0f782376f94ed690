-- What is written, with the rest behind it.
use Rattle.std.proofs.Common.{◌≡◌, ◌++◌, length}
use Rattle.gtd_hours_writing.specs.Rules.{more_rules_text}
use Rattle.gtd_hours_writing.proofs.rules.push_more_rules.Given as goal

abbrev pub invariant-loop-rule : goal.invariant-loop-rule
invariant-loop-rule l = l.out.items ++ more_rules_text l.rest ≡ l.initial.out.items ++ more_rules_text l.rules

abbrev pub decreases-loop-rule : goal.decreases-loop-rule
decreases-loop-rule l = length l.rest
