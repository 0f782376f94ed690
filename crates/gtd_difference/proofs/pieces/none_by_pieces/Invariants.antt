-- No second so far is in the expression.
use Rattle.std.specs.Prelude.{◌≡◌, ◌≤ℤ◌}
use Rattle.gtd_core.specs.Whole.{whole}
use Rattle.gtd_eval.specs.Membership.{InTree}
use Rattle.gtd_difference.specs.Memory.{AreNever}
use Rattle.gtd_difference.specs.Pieces.{AreKnown, HasNone, states_tree}
use Rattle.gtd_difference.proofs.pieces.none_by_pieces.Given as goal

abbrev pub invariant-loop : goal.invariant-loop
invariant-loop l = record {
  tree : states_tree l.states ≡ states_tree l.initial.states;
  known : AreKnown (whole l.days).until l.states;
  never : AreNever l.memory;
  later : l.fn.from.0 ≤ℤ l.at.0;
  none : HasNone (InTree (states_tree l.initial.states)) l.fn.from.0 l.at.0;
}
