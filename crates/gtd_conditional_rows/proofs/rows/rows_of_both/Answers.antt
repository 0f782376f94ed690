-- The rows of the steps that are left are those of all; what they close is what the steps close, and each type is in one row at
-- most.
use Rattle.std.proofs.Common.{arith, pos, sym, take, drop, length, ◌-◌}
use Rattle.std.proofs.lemmas.Result.{IfOk-weaker}
use Rattle.gtd_conditional_rows.proofs.BothLemmas.{answer-same, both-close, many-same}
use Rattle.gtd_conditional_rows.proofs.OverrideLemmas.{left-same}
use Rattle.gtd_conditional_rows.proofs.RowLemmas.{rows-once}
use Rattle.gtd_conditional_rows.proofs.rows.rows_of_both.Goals as goal

pub returns : goal.returns
returns c =
    let put = c.put_effective_last-first in
    let long = put.ensures.long in
    let given = c.as_mut_slice.ensures.value in
    let same = left-same c.args.steps.items put.new.steps c.as_mut_slice.result.now c.as_slice.result.now c.args.steps.len
    put.result (rw given at long) (omega arith) given c.as_slice.ensures.value put.ensures.same in
    let left = take (length c.as_slice.result.now - put.result) (drop put.result c.as_slice.result.now) in
    let rows = answer-same c.rows_by_both.result (λ r. r.items) left c.args.steps.items left c.args.steps.items same same
    c.rows_by_both.ensures.rows in
    record {
      rows = rows;
      closed = IfOk-weaker c.rows_by_both.result _ _
          (λ r are direction t s v. both-close c.args.steps.items r.items are direction t s v) rows;
      once = IfOk-weaker c.rows_by_both.result _ _
          (λ r are direction t v. rows-once t (pos 0) v c.args.steps.items c.args.steps.items r.items are direction) rows;
      too_many = (
        (λ e. many-same left c.args.steps.items same (c.rows_by_both.ensures.too_many.0 e)),
        (λ many. c.rows_by_both.ensures.too_many.1 (many-same c.args.steps.items left (λ t v. sym (same t v)) many)),
      );
    }
