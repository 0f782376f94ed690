-- What either source tells the sweep leaves what is still to come unchanged, until a span is handed out.
use Rattle.std.proofs.Common.{◌∙◌}
use Rattle.gtd_spans.proofs.source.next_of.Goals as goal

pub loop-left-preserved-in-Left : goal.loop-left-preserved-in-Left
loop-left-preserved-in-Left g c =
    let old = c.loop-left.invariant in
    let kept = c.in-Left.ensures.steps.1 (g.A.SpanSource.rest c.loop-left.left)
    (g.B.SpanSource.rest c.loop-left.right) old.fits in
    let told = c.tell.ensures.left c.in-Left.ensures.steps.0 (g.A.SpanSource.rest c.loop-left.left)
    (g.A.SpanSource.rest c.next-told.new.self) (g.B.SpanSource.rest c.loop-left.right) c.next-told.ensures.takes kept.0 in
    record { fits = told.0; same = old.same ∙ kept.1 ∙ told.1 }

pub loop-left-preserved : goal.loop-left-preserved
loop-left-preserved g c =
    let old = c.loop-left.invariant in
    let kept = c.in-Right.ensures.steps.1 (g.A.SpanSource.rest c.loop-left.left)
    (g.B.SpanSource.rest c.loop-left.right) old.fits in
    let told = c.tell-in-Right.ensures.right c.in-Right.ensures.steps.0 (g.A.SpanSource.rest c.loop-left.left)
    (g.B.SpanSource.rest c.loop-left.right) (g.B.SpanSource.rest c.next-told-in-Right.new.self) c.next-told-in-Right.ensures.takes
    kept.0 in
    record { fits = told.0; same = old.same ∙ kept.1 ∙ told.1 }
