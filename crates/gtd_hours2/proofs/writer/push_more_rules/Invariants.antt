-- what is written, with the rest after it
use Rattle.std.proofs.Common.{◌≡◌, ◌++◌, length}
use Rattle.gtd_hours2.specs.Written.{more_rules_text}
use Rattle.gtd_hours2.proofs.writer.push_more_rules.Given as goal

abbrev pub invariant-loop-rule : goal.invariant-loop-rule
invariant-loop-rule l =
    l.out.items ++ more_rules_text l.text l.rest ≡ l.initial.out.items ++ more_rules_text l.fn.text l.fn.rules

abbrev pub decreases-loop-rule : goal.decreases-loop-rule
decreases-loop-rule l = length l.rest
