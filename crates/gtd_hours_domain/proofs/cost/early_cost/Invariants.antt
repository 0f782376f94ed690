use Rattle.std.proofs.Common.{◌≡◌, ◌+◌, ◌≤◌, length}
use Rattle.gtd_hours.specs.Cost.{early_cost, counted, most_counted}
use Rattle.gtd_hours_domain.proofs.cost.early_cost.Given as goal

-- what is counted so far, with the rest
abbrev pub invariant-loop-time : goal.invariant-loop-time
invariant-loop-time l = (l.total ≤ most_counted) × (counted (l.total + early_cost l.rest) ≡ counted (early_cost l.times))

abbrev pub decreases-loop-time : goal.decreases-loop-time
decreases-loop-time l = length l.rest
