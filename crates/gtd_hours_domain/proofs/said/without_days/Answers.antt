-- The days that the rule matches are taken away.
use Rattle.std.proofs.lemmas.Result.{IfOk-weaker}
use Rattle.gtd_hours_domain.proofs.SpanLemmas.{kept-days}
use Rattle.gtd_hours_domain.proofs.said.without_days.Goals as goal

pub returns-clause-seconds : goal.returns-clause-seconds
returns-clause-seconds c =
    IfOk-weaker c.join.result _ _
    (λ e h s. kept-days _ _ _ c.args.rule.now.kinds.items _ s c.clock_at.ensures
    (rw c.as_slice.ensures.value at (c.in_ok-days.ensures.days s)) (h s))
    c.join.ensures.seconds
