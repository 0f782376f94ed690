-- The stays of two sides join to that of both, also where a side that repeats was found not to change.
use Rattle.gtd_eval.proofs.JoinedStays.{join-far, join-stays}
use Rattle.gtd_eval.proofs.stay.+expr_stay.Goals as goal

pub returns-in-Join : goal.returns-in-Join
returns-in-Join t c = record {
  stays = rw c.in-Join.is (join-stays c.in-Join.op _ _ c.in-Join.left.value c.in-Join.right.value _ _ _ _ _
      c.deref.ensures c.deref-in-Join.ensures c.joined.ensures.joined c.expr_stay-left.ensures.stays
      c.expr_stay-right.ensures.stays);
  far = rw c.in-Join.is (join-far c.in-Join.op _ _ c.in-Join.left.value c.in-Join.right.value _ _ _ _ _
      c.deref.ensures c.deref-in-Join.ensures c.joined.ensures.joined c.expr_stay-left.ensures.far c.expr_stay-right.ensures.far);
}
