-- A piece adds its seconds to those that are not in the expression.
use Rattle.std.proofs.Common.{◌∙◌, refl, subst, arith}
use Rattle.std.proofs.lemmas.Int.{ints}
use Rattle.gtd_core.specs.Trees.{Tree}
use Rattle.gtd_eval.specs.Membership.{InTree}
use Rattle.gtd_difference.specs.Pieces.{HasNone, states_tree}
use Rattle.gtd_difference.proofs.FixedDates.{none-on}
use Rattle.gtd_difference.proofs.pieces.none_by_pieces.Goals as goal

pub loop-init : goal.loop-init
loop-init c = record {
  tree = refl;
  known = c.requires.known;
  never = tt;
  later = omega (arith, ints);
  none = λ t later before h. omega (arith, ints, later, before);
}

pub loop-preserved : goal.loop-preserved
loop-preserved c =
    let i = c.loop.invariant in
    let piece = c.none_until-piece.ensures in
    let until = c.none_until-piece.result.until.0 in
    record {
      tree = piece.tree ∙ i.tree;
      known = piece.known;
      never = c.in_ok-memory.ensures.never;
      later = omega (arith, ints, i.later, piece.later);
      none = none-on (InTree (states_tree c.args.states.now)) c.args.from.0 c.loop.at.0 until i.none
          (subst (λ (x : Tree). HasNone (InTree x) c.loop.at.0 until) i.tree piece.none);
    }
