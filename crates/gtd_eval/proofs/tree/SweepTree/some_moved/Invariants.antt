-- None of the cursors from this one on may have handed out a span.
use Rattle.std.proofs.Common.{ℕ, ◌≤◌, length, drop}
use Rattle.gtd_eval.specs.Cursors.{AllAtStart}
use Rattle.gtd_eval.proofs.tree.SweepTree.some_moved.Given as goal

abbrev pub invariant-loop-first : goal.invariant-loop-first
invariant-loop-first g l = record {
  within : l.first ≤ length l.cursors;
  rest : AllAtStart (drop l.first l.cursors);
}

abbrev pub decreases-loop-first : goal.decreases-loop-first
decreases-loop-first g l = l.first
