-- The rows of one direction close both.
use Rattle.std.proofs.lemmas.Result.{IfOk-weaker}
use Rattle.gtd_conditional_rows.proofs.BothLemmas.{both-rows}
use Rattle.gtd_conditional_rows.proofs.rows.joined_both.Goals as goal

pub returns : goal.returns
returns c =
    IfOk-weaker c.both_closed.result _ _
    (λ both made. both-rows c.args.steps.now c.in_ok-rows.rows.items both.items c.in_ok-rows.ensures.groups made)
    c.both_closed.ensures
