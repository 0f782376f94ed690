use Rattle.std.proofs.Common.{◌≡◌, ◌≤◌, length}
use Rattle.gtd_recur.specs.RunsToCome.{runs_to_come, runs_whole}
use Rattle.gtd_recur.specs.Stretches.{starts_ahead}
use Rattle.gtd_recur.specs.Walking.{IsSameWindow, walk_to_come, walk_ticks}
use Rattle.gtd_recur.proofs.runs.Runs.next_run.Given as goal

-- no run was handed out
abbrev pub invariant-loop-self : goal.invariant-loop-self
invariant-loop-self l = record {
  left : runs_to_come l.fn.self ≡ runs_to_come l.self;
  whole : runs_whole l.self ≡ runs_whole l.fn.self;
  same : IsSameWindow l.fn.self.walk l.self.walk;
  grows : walk_ticks l.fn.self.walk ≤ walk_ticks l.self.walk;
}

abbrev pub decreases-loop-self : goal.decreases-loop-self
decreases-loop-self l = length (starts_ahead l.self.ahead (walk_to_come l.self.walk))
