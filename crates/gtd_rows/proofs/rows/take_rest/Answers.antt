-- The rows taken so far and those that the reader has left are all rows; each way out tells how many there are.
use Rattle.std.proofs.Common.{arith}
use Rattle.gtd_rows.proofs.TakingFacts.{all_taken, none_taken, row_left, row_stops, row_taken}
use Rattle.gtd_rows.proofs.rows.take_rest.Goals as goal

pub loop-number-init : goal.loop-number-init
loop-number-init g c = λ rows has. none_taken _ _ _ _ _ has

pub loop-number-preserved : goal.loop-number-preserved
loop-number-preserved g c = λ rows has.
    row_taken _ _ rows c.args.taker.now c.loop-number.reader _ c.loop-number.taker c.loop-number.number _
    (c.loop-number.invariant rows has) (rw c.if-not-branch.false at c.in_ok-next_row.ensures) _
    (rw c.if-not-branch-2.false at c.in_ok-take_row.ensures.row)

pub returns-then-not-branch : goal.returns-then-not-branch
returns-then-not-branch g c = record {
  rows = λ rows has.
      all_taken _ _ _ _ _ _ _ (c.loop-number.invariant rows has) (omega arith)
      (rw c.if-not-branch.true at c.in_ok-next_row.ensures);
}

pub returns-then-not-branch-2 : goal.returns-then-not-branch-2
returns-then-not-branch-2 g c = record {
  rows = λ rows has.
      row_stops _ _ rows c.args.taker.now c.loop-number.reader _ c.loop-number.taker c.loop-number.number _
      (c.loop-number.invariant rows has) (rw c.if-not-branch.false at c.in_ok-next_row.ensures) _ (omega arith)
      (rw c.if-not-branch-2.true at c.in_ok-take_row.ensures.row);
}

pub returns-then-branch : goal.returns-then-branch
returns-then-branch g c = record {
  rows = λ rows has.
      row_left _ _ rows c.args.taker.now c.loop-number.reader _ c.loop-number.taker c.loop-number.number _
      (c.loop-number.invariant rows has) (rw c.if-branch.true at c.in_ok-next_row-2.ensures)
      (omega arith);
}

pub returns : goal.returns
returns g c = record {
  rows = λ rows has.
      all_taken _ _ _ _ _ _ _ (c.loop-number.invariant rows has) (omega arith)
      (rw c.if-branch.false at c.in_ok-next_row-2.ensures);
}
