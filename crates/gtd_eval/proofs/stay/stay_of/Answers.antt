use Rattle.std.proofs.Common.{arith}
use Rattle.std.proofs.lemmas.Int.{ints}
use Rattle.gtd_eval.proofs.stay.stay_of.Goals as goal

pub returns : goal.returns
returns c =
    let near = rw c.expr-expr.ensures.value at c.expr_stay-stay.ensures.far in
    let long = c.settled_stay.ensures.long in
    record {
      stays = rw c.expr-expr.ensures.value at c.settled_stay.ensures.stays;
      far = λ u within none. let le = near u within none in omega (arith, ints, le, long);
    }
