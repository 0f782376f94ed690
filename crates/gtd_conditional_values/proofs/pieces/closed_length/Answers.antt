-- Where the first parenthesis is closed.
use Rattle.std.proofs.Common.{◌∙◌, sym, arith}
use Rattle.gtd_conditional_values.proofs.Steps.{more_closed, closed_all, closed_here}
use Rattle.gtd_conditional_values.proofs.pieces.closed_length.Goals as goal

pub loop-place-preserved : goal.loop-place-preserved
loop-place-preserved c =
    let less = c.loop-place-test.true in
    let more = c.nested-depth.ensures.more in
    record {
      rest =
          rw (c.nested-depth.ensures.depth, c.quoted-comment.ensures.is)
          (more_closed c.args.text.now c.loop-place.place c.loop-place.comment c.loop-place.depth less
          c.loop-place.invariant.rest (sym c.is_closing.ensures ∙ c.if-is_closing.false));
      few = omega arith;
    }

pub returns-then-is_closing-clause-bytes : goal.returns-then-is_closing-clause-bytes
returns-then-is_closing-clause-bytes c =
    sym
    (closed_here c.args.text.now c.loop-place.place c.loop-place.comment c.loop-place.depth c.loop-place-test.true
    c.loop-place.invariant.rest (sym c.is_closing.ensures ∙ c.if-is_closing.true))

pub returns-clause-bytes : goal.returns-clause-bytes
returns-clause-bytes c =
    sym
    (closed_all c.args.text.now c.loop-place.place c.loop-place.comment c.loop-place.depth (omega arith) (omega arith)
    c.loop-place.invariant.rest)
