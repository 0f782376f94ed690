use Rattle.std.proofs.Common.{◌≡◌, ◌↔◌, ◌+◌, false, length, ℤ}
use Rattle.std.specs.Prelude.{None}
use Rattle.gtd_hours.specs.Cost.{selectors_cost}
use Rattle.gtd_hours_selectors.specs.Days.{HasDays, SomeHoldsAt, begins_yearly}
use Rattle.gtd_hours_leaves.specs.Leaves.{maybe_leaves, minutes_of, moved_day}
use Rattle.gtd_hours_selectors.proofs.days.some_days.Given as goal

-- what is united so far, and to be met with their years, with the days of the selectors that are left
abbrev pub invariant-loop-selector : goal.invariant-loop-selector
invariant-loop-selector l = record {
  days : (s : ℤ) → HasDays l.so_far.union l.so_far.each l.rest (minutes_of l.clock) s
      ↔ SomeHoldsAt l.selectors (moved_day (minutes_of l.clock) s);
  leaves : maybe_leaves l.so_far.union + maybe_leaves l.so_far.each + selectors_cost l.rest ≡ selectors_cost l.selectors;
  next : begins_yearly l.rest ≡ false → l.so_far.each ≡ None;
}

abbrev pub decreases-loop-selector : goal.decreases-loop-selector
decreases-loop-selector l = length l.rest
