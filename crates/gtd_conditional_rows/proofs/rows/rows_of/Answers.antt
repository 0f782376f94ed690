-- The rows of the steps that are left are those of all; what they close is what the steps close, and each type is in one row at
-- most.
use Rattle.std.proofs.Common.{arith, pos, sym, inl, inr, take, drop, length, ◌-◌}
use Rattle.std.proofs.lemmas.Result.{IfOk-weaker}
use Rattle.gtd_conditional_rows.proofs.BothLemmas.{answer-same, many-same}
use Rattle.gtd_conditional_rows.proofs.OverrideLemmas.{left-same}
use Rattle.gtd_conditional_rows.proofs.RowLemmas.{rows-close, rows-once}
use Rattle.gtd_conditional_rows.proofs.rows.rows_of.Goals as goal

pub returns : goal.returns
returns c =
    let positive = c.args.positive.items in
    let negative = c.args.negative.items in
    let ahead = c.put_effective_last-ahead in
    let back = c.put_effective_last-back in
    let given = c.as_mut_slice.ensures.value in
    let given-2 = c.as_mut_slice-2.ensures.value in
    let long = ahead.ensures.long in
    let long-2 = back.ensures.long in
    let left = take (length c.as_slice.result.now - ahead.result) (drop ahead.result c.as_slice.result.now) in
    let left-2 = take (length c.as_slice-2.result.now - back.result) (drop back.result c.as_slice-2.result.now) in
    let same = left-same positive ahead.new.steps c.as_mut_slice.result.now c.as_slice.result.now c.args.positive.len ahead.result
    (rw given at long) (omega arith) given c.as_slice.ensures.value ahead.ensures.same in
    let same-2 = left-same negative back.new.steps c.as_mut_slice-2.result.now c.as_slice-2.result.now c.args.negative.len
    back.result (rw given-2 at long-2) (omega arith) given-2 c.as_slice-2.ensures.value back.ensures.same in
    let rows = answer-same c.rows_by.result (λ r. r.items) left positive left-2 negative same same-2 c.rows_by.ensures.rows in
    record {
      rows = rows;
      closed = IfOk-weaker c.rows_by.result _ _
          (λ r are direction t s v. rows-close t s v positive negative r.items are direction) rows;
      once = IfOk-weaker c.rows_by.result _ _
          (λ r are direction t v. rows-once t (pos 0) v positive negative r.items are direction) rows;
      too_many = (
        (λ e. elim (c.rows_by.ensures.too_many.0 e) [
          | inl many ↦ inl (many-same left positive same many)
          | inr many ↦ inr (many-same left-2 negative same-2 many)
        ]),
        (λ many. c.rows_by.ensures.too_many.1 (elim many [
          | inl one ↦ inl (many-same positive left (λ t v. sym (same t v)) one)
          | inr other ↦ inr (many-same negative left-2 (λ t v. sym (same-2 t v)) other)
        ])),
      );
    }
