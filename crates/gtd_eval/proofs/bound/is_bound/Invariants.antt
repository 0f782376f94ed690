use Rattle.std.specs.Prelude.{◌≤ℤ◌, not}
use Rattle.gtd_core.specs.Trees.{tree_of}
use Rattle.gtd_eval.specs.Bounds.{InBound}
use Rattle.gtd_eval.proofs.BoundFacts.{AreTold}
use Rattle.gtd_eval.proofs.bound.is_bound.Given as goal

-- so far the bound is as it is said to be
abbrev pub invariant-loop : goal.invariant-loop
invariant-loop l = record {
  from : l.fn.second.0 ≤ℤ l.at.0;
  told : AreTold l.holds (InBound (not l.holds) (tree_of l.expr)) l.fn.second.0 l.at.0;
}
