use Rattle.std.proofs.Common.{◌≡◌, ◌↔◌, ◌⊎◌, ◌+◌, ◌≤◌, ◌-◌, ℤ}
use Rattle.gtd_hours.specs.Cost.{steps_cost}
use Rattle.gtd_hours_leaves.specs.Leaves.{HasNumberWithin, InMaybe, maybe_leaves, minutes_of, moved_day}
use Rattle.gtd_hours_leaves.specs.declared.level.Level.TheVariants.{Year}
use Rattle.gtd_hours_leaves.proofs.numbers.unite_runs.Given as goal

-- what is united so far, with the years that are left
abbrev pub invariant-loop-begin : goal.invariant-loop-begin
invariant-loop-begin l = record {
  order : l.begin ≤ l.last;
  days : (s : ℤ) → (InMaybe l.union s ⊎ HasNumberWithin Year l.begin l.last (moved_day (minutes_of l.clock) s))
      ↔ (InMaybe l.fn.so_far s ⊎ HasNumberWithin Year l.first l.last (moved_day (minutes_of l.clock) s));
  leaves : maybe_leaves l.union + steps_cost l.begin l.last 100 ≡ maybe_leaves l.fn.so_far + steps_cost l.first l.last 100;
}

-- how many years are left
abbrev pub decreases-loop-begin : goal.decreases-loop-begin
decreases-loop-begin l = l.last - l.begin
