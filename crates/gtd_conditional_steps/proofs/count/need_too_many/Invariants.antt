-- Whether one of the tags that are left needs too many.
use Rattle.std.proofs.Common.{◌↔◌, length}
use Rattle.gtd_conditional_steps.specs.Hours.{NeedTooMany}
use Rattle.gtd_conditional_steps.proofs.count.need_too_many.Given as goal

abbrev pub invariant-loop-tag : goal.invariant-loop-tag
invariant-loop-tag l = NeedTooMany l.rest ↔ NeedTooMany l.tags

abbrev pub decreases-loop-tag : goal.decreases-loop-tag
decreases-loop-tag l = length l.rest
