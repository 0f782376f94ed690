-- One part after another is asked for its `@`.
use Rattle.std.proofs.Common.{◌∙◌, ap, sym, arith, ◌+◌, ℕ, take}
use Rattle.gtd_conditional_values.specs.Pieces.{at_sign}
use Rattle.gtd_conditional_parts.proofs.PartSteps.{finds_here, finds_more, left_more, left_none, none_of, some_of}
use Rattle.gtd_conditional_parts.proofs.part.first_without_at.Goals as goal

pub loop-rest-init : goal.loop-rest-init
loop-rest-init c = record { fits = omega arith; finds = λ found h. h; left = λ found h. h }

pub returns-then-not-has_at : goal.returns-then-not-has_at
returns-then-not-has_at c =
    let none = none_of (at_sign (take c.part_length-bytes.result c.loop-rest.rest.now))
    (sym c.has_at.ensures ∙ c.if-not-has_at.true) in
    record {
      first =
          finds_here 0 c.args.text.now c.loop-rest.at c.part_length-bytes.result c.loop-rest.rest.now
          c.part_length-bytes.ensures.bytes (c.loop-rest.at + c.front_spaces.result) none
          (ap (λ (k : ℕ). c.loop-rest.at + k) c.front_spaces.ensures.count) c.loop-rest.invariant.finds;
    }

pub returns-then-rest-bytes-lt1 : goal.returns-then-rest-bytes-lt1
returns-then-rest-bytes-lt1 c =
    let has = some_of (at_sign (take c.part_length-bytes.result c.loop-rest.rest.now))
    (sym c.has_at.ensures ∙ c.if-not-has_at.false) in
    record {
      first =
          left_none 0 c.args.text.now c.loop-rest.at c.part_length-bytes.result c.loop-rest.rest.now
          c.part_length-bytes.ensures.bytes has.0 has.1 (omega arith)
          c.loop-rest.invariant.left;
    }

pub loop-rest-preserved : goal.loop-rest-preserved
loop-rest-preserved c =
    let has = some_of (at_sign (take c.part_length-bytes.result c.loop-rest.rest.now))
    (sym c.has_at.ensures ∙ c.if-not-has_at.false) in
    let n = c.part_length-bytes.result in
    let cut = c.part_length-bytes.ensures.bytes in
    let is = has.1 in
    record {
      fits = omega (arith, c.text_from-rest.ensures.long);
      finds =
          finds_more 0 c.args.text.now c.loop-rest.at n c.loop-rest.rest.now cut has.0 is (omega arith)
          c.loop-rest.invariant.finds c.text_from-rest.result.now c.text_from-rest.ensures.text;
      left =
          left_more 0 c.args.text.now c.loop-rest.at n c.loop-rest.rest.now cut has.0 is c.loop-rest.invariant.left
          c.text_from-rest.result.now c.text_from-rest.ensures.text;
    }
