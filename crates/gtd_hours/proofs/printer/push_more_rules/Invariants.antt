use Rattle.std.proofs.Common.{◌≡◌, ◌++◌, length, string_bytes}
use Rattle.gtd_hours.specs.Written.{more_rules_text}
use Rattle.gtd_hours.proofs.printer.push_more_rules.Given as goal

-- what is written, with the rest behind it
abbrev pub invariant-loop-rule : goal.invariant-loop-rule
invariant-loop-rule l = string_bytes l.out ++ more_rules_text l.rest ≡ string_bytes l.initial.out ++ more_rules_text l.rules

abbrev pub decreases-loop-rule : goal.decreases-loop-rule
decreases-loop-rule l = length l.rest
