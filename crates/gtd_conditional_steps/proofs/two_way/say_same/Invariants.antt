use Rattle.std.proofs.Common.{◌↔◌, length}
use Rattle.gtd_conditional_steps.specs.TwoWay.{SaySame}
use Rattle.gtd_conditional_steps.proofs.two_way.say_same.Given as goal

-- whether the parts that are left do
abbrev pub invariant-loop-part : goal.invariant-loop-part
invariant-loop-part l = SaySame l.rest ↔ SaySame l.parts

abbrev pub decreases-loop-part : goal.decreases-loop-part
decreases-loop-part l = length l.rest
