-- The taker of gaps takes the gap before a span.
use Rattle.gtd_eval.proofs.GapFacts.{took-gap}
use Rattle.gtd_eval.proofs.gaps.GapsSpanTaker.take.Goals as goal

pub returns-in-Some-clause-takes : goal.returns-in-Some-clause-takes
returns-in-Some-clause-takes g c = took-gap g.T.SpanTaker.is_ready g.T.SpanTaker.takes c.args.into.now c.take.new.into
    c.args.self.now.sweep c.gap_before.new.self c.args.self.now.taker.ghost_name c.args.self.now.taker.now c.take.new.self
    c.args.span c.in-Some.gap c.take.result c.gap_before.ensures.one_side c.gap_before.ensures.awaits
    c.gap_before.ensures.count c.in-Some.ensures.gap c.take.ensures.takes c.take.ensures.ready
