-- The steps so far, with those of the parts that are left, are those of all.
use Rattle.std.proofs.Common.{length}
use Rattle.gtd_conditional_steps.specs.Sayings.{said_by_parts}
use Rattle.gtd_conditional_steps.proofs.StepLemmas.{AddsOn}
use Rattle.gtd_conditional_steps.proofs.steps.push_parts.Given as goal

abbrev pub invariant-loop-part : goal.invariant-loop-part
invariant-loop-part l =
    AddsOn l.asked.means.now.rows.items l.asked.direction (said_by_parts l.types l.rest) (said_by_parts l.types l.parts)
    l.fn.steps.items l.steps.items

abbrev pub decreases-loop-part : goal.decreases-loop-part
decreases-loop-part l = length l.rest
