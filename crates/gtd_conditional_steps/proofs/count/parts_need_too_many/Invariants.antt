-- Whether one of the parts that are left needs too many.
use Rattle.std.proofs.Common.{◌↔◌, length}
use Rattle.gtd_conditional_steps.specs.Hours.{PartsNeedTooMany}
use Rattle.gtd_conditional_steps.proofs.count.parts_need_too_many.Given as goal

abbrev pub invariant-loop-part : goal.invariant-loop-part
invariant-loop-part l = PartsNeedTooMany l.rest ↔ PartsNeedTooMany l.parts

abbrev pub decreases-loop-part : goal.decreases-loop-part
decreases-loop-part l = length l.rest
