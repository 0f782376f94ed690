-- The spans to come are the horizon less the inner source, and the right side is never asked.
use Rattle.std.proofs.Common.{[]}
use Rattle.gtd_core.specs.Whole.{whole}
use Rattle.gtd_spans.specs.facts.Whole.{minus-whole}
use Rattle.gtd_spans.proofs.source.Outside.new.Goals as goal

pub invariant_of-result : goal.invariant_of-result
invariant_of-result g c = record {
  one_side = c.outside.ensures.one_side;
  fits = c.outside.ensures.fits _ [] (g.met.A.SpanSource.is_normal c.args.a);
}

pub returns-clause-seconds : goal.returns-clause-seconds
returns-clause-seconds g c = rw (c.outside.ensures.meaning _ []) (minus-whole (whole c.args.horizon) _)
