use Rattle.std.proofs.Common.{arith}
use Rattle.std.proofs.lemmas.Int.{ints}
use Rattle.gtd_core.specs.Trees.{tree_of}
use Rattle.gtd_core.specs.Whole.{whole}
use Rattle.gtd_eval.specs.Membership.{InTree}
use Rattle.gtd_eval.proofs.BoundFacts.{never-told}
use Rattle.gtd_eval.proofs.bound.settled_stay.Goals as goal

pub returns-then-is_bound : goal.returns-then-is_bound
returns-then-is_bound c =
    let stay = c.requires.stays in
    let end = c.until-end.ensures.value in
    let inside = c.requires.inside in
    let told = c.is_bound.ensures.bound c.if-is_bound.true in
    record {
      stays = record {
        holds = stay.holds;
        later = omega (arith, ints, end, inside.1);
        within = omega (arith, ints, end);
        same = never-told c.args.stay.holds (InTree (tree_of c.args.expr.now)) c.args.second.0 (whole c.args.horizon).until
            c.until-end.result.0 end told;
      };
      long = (let within = stay.within in omega (arith, ints, end, within));
    }
