-- No second so far is in the expression with fixed dates, which stays the same.
use Rattle.std.specs.Prelude.{ℤ, ◌≡◌, ◌≤ℤ◌, ◌↔◌}
use Rattle.gtd_core.specs.Whole.{whole}
use Rattle.gtd_difference.specs.Pieces.{AreKnown, HasNone, InFixed, states_tree}
use Rattle.gtd_difference.proofs.pieces.none_fixed_until.Given as goal

abbrev pub invariant-loop : goal.invariant-loop
invariant-loop l = record {
  tree : states_tree l.states ≡ states_tree l.initial.states;
  known : AreKnown (whole l.days).until l.states;
  later : l.fn.from.0 ≤ℤ l.at.0;
  same : (t : ℤ) → InFixed l.states t ↔ InFixed l.initial.states t;
  none : HasNone (InFixed l.initial.states) l.fn.from.0 l.at.0;
}
