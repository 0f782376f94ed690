-- Days that begin when the range does, met with its minutes on each of them, are its spans, also past midnight.
use Rattle.std.proofs.lemmas.Result.{IfOk-weaker}
use Rattle.gtd_hours.specs.Opening.{Matches}
use Rattle.gtd_hours_domain.proofs.SpanLemmas.{spans-of}
use Rattle.gtd_hours_domain.proofs.spans.time_spans.Goals as goal

pub returns-clause-seconds : goal.returns-clause-seconds
returns-clause-seconds c =
    IfOk-weaker c.join.result _ _
    (λ e h s. spans-of _ _ _ (Matches c.args.kinds.now) _ c.args.time.begin _ c.lasts.result s (h s)
    (c.in_ok-days.ensures.days s) (c.each_clock.ensures.seconds s)
    c.clock_at-clock.ensures c.lasts.ensures.sum c.lasts.ensures.most)
    c.join.ensures.seconds
