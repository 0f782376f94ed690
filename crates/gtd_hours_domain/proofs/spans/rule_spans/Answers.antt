-- Without times the spans are the matching days; with times, those of ranges that end on their day and of the others.
use Rattle.std.proofs.Common.{sym}
use Rattle.std.proofs.lemmas.Result.{IfOk-weaker}
use Rattle.gtd_hours_domain.proofs.SpanLemmas.{no_times, some_times}
use Rattle.gtd_hours_domain.proofs.spans.rule_spans.Goals as goal

pub returns-then-is_empty-clause-seconds : goal.returns-then-is_empty-clause-seconds
returns-then-is_empty-clause-seconds c =
    IfOk-weaker c.matching_days.result _ _
    (λ e h s. no_times _ c.args.kinds.now c.args.times.now _ s (sym c.if-is_empty.ensures) c.clock_at.ensures (h s))
    c.matching_days.ensures.days

pub returns-clause-seconds : goal.returns-clause-seconds
returns-clause-seconds c s =
    some_times _ _ _ c.args.kinds.now c.args.times.now s (sym c.if-is_empty.ensures) (c.in_ok-early.ensures.seconds s)
    (c.in_ok-spans.ensures.seconds s) (c.or_nothing.ensures.seconds s)
