-- The steps so far, with those of the tags that are left, are those of all.
use Rattle.std.proofs.Common.{length}
use Rattle.gtd_conditional_steps.specs.Sayings.{said_by_key}
use Rattle.gtd_conditional_steps.proofs.StepLemmas.{AddsOn}
use Rattle.gtd_conditional_steps.proofs.steps.push_key.Given as goal

abbrev pub invariant-loop-tag : goal.invariant-loop-tag
invariant-loop-tag l =
    AddsOn l.asked.means.now.rows.items l.asked.direction
    (said_by_key l.types l.key.mode l.key.direction l.key.conditional l.rest)
    (said_by_key l.types l.key.mode l.key.direction l.key.conditional l.tags) l.fn.steps.items l.steps.items

abbrev pub decreases-loop-tag : goal.decreases-loop-tag
decreases-loop-tag l = length l.rest
