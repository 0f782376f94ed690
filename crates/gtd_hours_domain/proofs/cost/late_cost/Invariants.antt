use Rattle.std.proofs.Common.{◌≡◌, ◌+◌, ◌≤◌, length}
use Rattle.gtd_hours.specs.Cost.{late_cost, counted, most_counted}
use Rattle.gtd_hours_domain.proofs.cost.late_cost.Given as goal

-- what is counted so far, with the rest
abbrev pub invariant-loop-time : goal.invariant-loop-time
invariant-loop-time l =
    (l.total ≤ most_counted) × (counted (l.total + late_cost l.days l.rest) ≡ counted (late_cost l.days l.times))

abbrev pub decreases-loop-time : goal.decreases-loop-time
decreases-loop-time l = length l.rest
