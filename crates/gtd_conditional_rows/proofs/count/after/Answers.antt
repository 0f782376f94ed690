-- One step more is counted.
use Rattle.gtd_conditional_rows.proofs.SizeLemmas.{one-size}
use Rattle.gtd_conditional_rows.proofs.count.after.Goals as goal

pub loop-step-preserved : goal.loop-step-preserved
loop-step-preserved c =
    one-size _ _ _ _ c.in-Some.step.now c.in-Some.more.now c.loop-step.rest.now c.in-Some.ensures.cases.0
    c.by-size.ensures c.loop-step.invariant
