-- What the one source tells the sweep leaves what is still to come unchanged, and the right side stays unasked.
use Rattle.std.proofs.Common.{◌∙◌, []}
use Rattle.gtd_spans.proofs.source.next_outside.Goals as goal

pub loop-inner-preserved : goal.loop-inner-preserved
loop-inner-preserved g c =
    let old = c.loop-inner.invariant in
    let kept = c.in-Left.ensures.steps.1 (g.A.SpanSource.rest c.loop-inner.inner) [] old.fits in
    let told = c.tell.ensures.left c.in-Left.ensures.steps.0 (g.A.SpanSource.rest c.loop-inner.inner)
    (g.A.SpanSource.rest c.next-told.new.self) [] c.next-told.ensures.takes kept.0 in
    record {
      one_side = c.tell.ensures.sides.1 (c.in-Left.ensures.sides.1 old.one_side);
      fits = told.0;
      same = old.same ∙ kept.1 ∙ told.1;
    }
