-- The step of one part more.
use Rattle.std.proofs.Common.{subst, List, ◌∷◌, []}
use Rattle.gtd_conditional_parts.specs.declared.value.Part.{Part}
use Rattle.gtd_conditional_steps.specs.Sayings.{Saying, said_by_parts}
use Rattle.gtd_conditional_steps.proofs.StepLemmas.{AddsOn, on_more, one}
use Rattle.gtd_conditional_steps.proofs.steps.push_parts.Goals as goal

pub loop-part-preserved : goal.loop-part-preserved
loop-part-preserved c =
    let rows = c.args.asked.means.now.rows.items in
    let all = said_by_parts c.args.types.now c.args.parts.now in
    let saying : Saying = record { types = c.args.types.now; part = c.in-Some.part.now } in
    on_more rows c.args.asked.direction (saying ∷ []) (said_by_parts c.args.types.now c.in-Some.more.now) all
    c.args.steps.now.items c.loop-part.steps.items c.push_step.new.steps.items
    (one rows c.args.asked.direction saying c.in_ok-step.step c.loop-part.steps.items c.push_step.new.steps.items
    c.in_ok-step.ensures c.in_ok-push_step.ensures)
    (subst
    (λ (parts : List Part). AddsOn rows c.args.asked.direction (said_by_parts c.args.types.now parts) all
    c.args.steps.now.items c.loop-part.steps.items) c.in-Some.ensures.cases.0 c.loop-part.invariant)
