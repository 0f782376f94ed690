use Rattle.std.proofs.Common.{◌∷◌, ◌≤◌, length, pos, ◌+ℤ◌}
use Rattle.gtd_core.specs.Parts.{duration_parts}
use Rattle.gtd_recur.specs.Ascending.{IsAscending, AllBefore}
use Rattle.gtd_recur.specs.Stretches.{IsRun}
use Rattle.gtd_recur.specs.Walking.{IsSameWindow, walk_to_come, walk_given, walk_ticks}
use Rattle.gtd_recur.proofs.runs.run_end.Given as goal

-- the run from the first start to the end so far, and the starts that are left
abbrev pub invariant-loop-start : goal.invariant-loop-start
invariant-loop-start l = record {
  run : IsRun (duration_parts l.fn.duration) (l.fn.first.0 ∷ walk_to_come l.fn.walk)
      (walk_to_come l.walk) l.fn.first.0 l.end.0;
  ascending : IsAscending (l.fn.first.0 ∷ walk_to_come l.walk);
  fewer : length (walk_to_come l.walk) ≤ length (walk_to_come l.fn.walk);
  given : AllBefore (l.end.0 +ℤ pos 1) (walk_given l.walk);
  grows : walk_ticks l.fn.walk ≤ walk_ticks l.walk;
  same : IsSameWindow l.fn.walk l.walk;
}

abbrev pub decreases-loop-start : goal.decreases-loop-start
decreases-loop-start l = length (walk_to_come l.walk)
