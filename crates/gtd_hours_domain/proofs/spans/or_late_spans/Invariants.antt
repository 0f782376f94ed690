use Rattle.std.proofs.Common.{◌≡◌, ◌↔◌, ◌⊎◌, ◌+◌, length, ℤ}
use Rattle.gtd_hours.specs.Cost.{days_cost, late_cost}
use Rattle.gtd_hours.specs.Opening.{Matches}
use Rattle.gtd_hours_domain.specs.Translation.{SomeLate}
use Rattle.gtd_hours_leaves.specs.Leaves.{InMaybe, maybe_leaves}
use Rattle.gtd_hours_domain.proofs.spans.or_late_spans.Given as goal

-- what is united so far, with the spans of the ranges that are left
abbrev pub invariant-loop-time : goal.invariant-loop-time
invariant-loop-time l =
    ((s : ℤ) → (InMaybe l.union s ⊎ ((n : ℤ) × Matches l.kinds n × SomeLate l.rest n s))
    ↔ (InMaybe l.fn.so_far s ⊎ ((n : ℤ) × Matches l.kinds n × SomeLate l.times n s)))
    × (maybe_leaves l.union + late_cost (days_cost l.kinds) l.rest
    ≡ maybe_leaves l.fn.so_far + late_cost (days_cost l.kinds) l.times)

abbrev pub decreases-loop-time : goal.decreases-loop-time
decreases-loop-time l = length l.rest
