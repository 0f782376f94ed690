use Rattle.std.proofs.Common.{◌≡◌, ◌≤◌, ◌-ℤ◌, unsigned_abs}
use Rattle.gtd_core.specs.Whole.{to_day}
use Rattle.gtd_recur.specs.Walking.{IsSameWindow, walk_to_come, walk_ticks}
use Rattle.gtd_recur.proofs.walk.Walk.next.Given as goal

-- no start was handed out
abbrev pub invariant-loop-start : goal.invariant-loop-start
invariant-loop-start l = record {
  left : walk_to_come l.fn.self ≡ walk_to_come l.self;
  same : IsSameWindow l.fn.self l.self;
  grows : walk_ticks l.fn.self ≤ walk_ticks l.self;
}

abbrev pub decreases-loop-start : goal.decreases-loop-start
decreases-loop-start l = unsigned_abs (to_day l.self.horizon -ℤ l.self.next_day)
