-- The rules so far, and those of the parts left, are those of the text.
use Rattle.std.proofs.Common.{◌≡◌, length}
use Rattle.gtd_hours_holiday_rules.specs.Rules.{all_rules, rules_of}
use Rattle.gtd_hours_holiday_rules.proofs.rules.rules_of.Given as goal

abbrev pub invariant-loop-part : goal.invariant-loop-part
invariant-loop-part l = all_rules l.text l.cut l.rest ≡ rules_of l.text l.parts

abbrev pub decreases-loop-part : goal.decreases-loop-part
decreases-loop-part l = length l.rest
