-- At each turn, the union and the ranges that are left hold the same seconds as all ranges do, of those that end on
-- their day, and have as many basic domains.
use Rattle.std.proofs.Common.{◌≡◌, ◌↔◌, ◌⊎◌, ◌+◌, length, ℤ}
use Rattle.gtd_core.specs.Seconds.{day_of_second}
use Rattle.gtd_hours.specs.Cost.{early_cost}
use Rattle.gtd_hours_domain.specs.Translation.{SomeEarly}
use Rattle.gtd_hours_leaves.specs.Leaves.{InMaybe, maybe_leaves}
use Rattle.gtd_hours_domain.proofs.spans.clocks.Given as goal

abbrev pub invariant-loop-time : goal.invariant-loop-time
invariant-loop-time l =
    ((s : ℤ) → (InMaybe l.union s ⊎ SomeEarly l.rest (day_of_second s) s) ↔ SomeEarly l.times (day_of_second s) s)
    × (maybe_leaves l.union + early_cost l.rest ≡ early_cost l.times)

abbrev pub decreases-loop-time : goal.decreases-loop-time
decreases-loop-time l = length l.rest
