-- The first place at which the text does not fit.
use Rattle.std.proofs.Common.{◌∙◌, sym, arith}
use Rattle.gtd_conditional_values.proofs.Steps.{more_nested, nested_free, nested_here, nested_open, nested_start}
use Rattle.gtd_conditional_values.proofs.nesting.first_unnested.Goals as goal

pub loop-place-init : goal.loop-place-init
loop-place-init c = record { rest = nested_start c.args.text.now; few = omega arith }

pub loop-place-preserved : goal.loop-place-preserved
loop-place-preserved c =
    let less = c.loop-place-test.true in
    let more = c.nested-depth.ensures.more in
    record {
      rest =
          rw (c.nested-depth.ensures.depth, c.quoted-comment.ensures.is)
          (more_nested c.args.text.now c.loop-place.place c.loop-place.comment c.loop-place.depth less
          c.loop-place.invariant.rest (sym c.is_too_many.ensures ∙ c.if-is_too_many.false));
      few = omega arith;
    }

pub returns-then-is_too_many : goal.returns-then-is_too_many
returns-then-is_too_many c = record {
  first =
      sym
      (nested_here c.args.text.now c.loop-place.place c.loop-place.comment c.loop-place.depth c.loop-place-test.true
      c.loop-place.invariant.rest (sym c.is_too_many.ensures ∙ c.if-is_too_many.true));
}

pub returns-then-is_free : goal.returns-then-is_free
returns-then-is_free c = record {
  first =
      sym
      (nested_free c.args.text.now c.loop-place.place c.loop-place.comment c.loop-place.depth (omega arith) (omega arith)
      c.loop-place.invariant.rest (sym c.is_free.ensures.is ∙ c.if-is_free.true));
}

pub returns : goal.returns
returns c = record {
  first =
      sym
      (nested_open c.args.text.now c.loop-place.place c.loop-place.comment c.loop-place.depth (omega arith) (omega arith)
      c.loop-place.invariant.rest (sym c.is_free.ensures.is ∙ c.if-is_free.false));
}
