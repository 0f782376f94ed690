-- One step more is taken.
use Rattle.gtd_conditional_rows.proofs.SizeLemmas.{one-time}
use Rattle.gtd_conditional_rows.proofs.times.after.Goals as goal

pub loop-step-preserved : goal.loop-step-preserved
loop-step-preserved c =
    one-time _ _ _ _ c.in-Some.step.now c.in-Some.more.now c.loop-step.rest.now c.in-Some.ensures.cases.0
    c.in_ok-times.ensures c.loop-step.invariant
