-- A range that ends on its day holds at the minutes of that day from its beginning to its end.
use Rattle.std.proofs.Common.{rules}
use Rattle.gtd_hours_domain.proofs.SpanLemmas.{early-clock, or-same}
use Rattle.gtd_hours_domain.proofs.spans.or_clock.Goals as goal

pub returns-clause-seconds : goal.returns-clause-seconds
returns-clause-seconds c s =
    or-same _ _ _ _ (early-clock _ _ c.args.time.begin _ c.lasts.result s (c.each_clock-clock.ensures.seconds s)
    c.clock_at.ensures c.lasts.ensures.sum (c.is_early.ensures.0 (search rules))) (c.in_ok-expr.ensures.seconds s)
