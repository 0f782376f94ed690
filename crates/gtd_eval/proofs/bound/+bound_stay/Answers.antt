use Rattle.gtd_eval.proofs.BoundFacts.{join-bound}
use Rattle.gtd_eval.proofs.bound.+bound_stay.Goals as goal

pub returns-in-Join : goal.returns-in-Join
returns-in-Join t c = record {
  stays = rw c.in-Join.is (join-bound c.in-Join.op c.args.upper c.right_bound.result _ _ c.in-Join.left.value
      c.in-Join.right.value _ _ _ _ _ c.deref.ensures c.deref-in-Join.ensures c.right_bound.ensures c.joined.ensures.joined
      c.bound_stay-left.ensures.stays c.bound_stay-right.ensures.stays);
}
