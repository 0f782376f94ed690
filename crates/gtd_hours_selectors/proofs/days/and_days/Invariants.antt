use Rattle.std.proofs.Common.{◌≡◌, ◌↔◌, ◌+◌, length, ℤ}
use Rattle.gtd_core.specs.Trees.{leaf_count, tree_of}
use Rattle.gtd_eval.specs.Membership.{InTree}
use Rattle.gtd_hours.specs.Cost.{kinds_cost}
use Rattle.gtd_hours_selectors.specs.Days.{EachHoldsAt}
use Rattle.gtd_hours_leaves.specs.Leaves.{minutes_of, moved_day}
use Rattle.gtd_hours_selectors.proofs.days.and_days.Given as goal

-- what is met so far, on the days on which the kinds that are left hold
abbrev pub invariant-loop-kind : goal.invariant-loop-kind
invariant-loop-kind l =
    ((s : ℤ) → (InTree (tree_of l.meet) s × EachHoldsAt l.rest (moved_day (minutes_of l.clock) s))
    ↔ (InTree (tree_of l.fn.first) s × EachHoldsAt l.kinds (moved_day (minutes_of l.clock) s)))
    × (leaf_count (tree_of l.meet) + kinds_cost l.rest ≡ leaf_count (tree_of l.fn.first) + kinds_cost l.kinds)

abbrev pub decreases-loop-kind : goal.decreases-loop-kind
decreases-loop-kind l = length l.rest
