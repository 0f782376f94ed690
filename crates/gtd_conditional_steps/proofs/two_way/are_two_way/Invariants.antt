use Rattle.std.proofs.Common.{◌↔◌, length}
use Rattle.gtd_conditional_steps.specs.TwoWay.{AreTwoWay}
use Rattle.gtd_conditional_steps.proofs.two_way.are_two_way.Given as goal

-- whether the tags that are left do
abbrev pub invariant-loop-tag : goal.invariant-loop-tag
invariant-loop-tag l = AreTwoWay l.rest ↔ AreTwoWay l.tags

abbrev pub decreases-loop-tag : goal.decreases-loop-tag
decreases-loop-tag l = length l.rest
