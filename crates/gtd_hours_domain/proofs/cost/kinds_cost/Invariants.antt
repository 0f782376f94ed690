use Rattle.std.proofs.Common.{◌≡◌, ◌+◌, ◌≤◌, length}
use Rattle.gtd_hours.specs.Cost.{kinds_cost, counted, most_counted}
use Rattle.gtd_hours_domain.proofs.cost.kinds_cost.Given as goal

-- what is counted so far, with the rest
abbrev pub invariant-loop-kind : goal.invariant-loop-kind
invariant-loop-kind l = (l.total ≤ most_counted) × (counted (l.total + kinds_cost l.rest) ≡ counted (kinds_cost l.kinds))

abbrev pub decreases-loop-kind : goal.decreases-loop-kind
decreases-loop-kind l = length l.rest
