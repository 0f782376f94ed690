use Rattle.std.proofs.Common.{◌≡◌, ◌+◌, ◌≤◌, length}
use Rattle.gtd_hours.specs.Cost.{selectors_cost, counted, most_counted}
use Rattle.gtd_hours_domain.proofs.cost.selectors_cost.Given as goal

-- what is counted so far, with the rest
abbrev pub invariant-loop-selector : goal.invariant-loop-selector
invariant-loop-selector l =
    (l.total ≤ most_counted) × (counted (l.total + selectors_cost l.rest) ≡ counted (selectors_cost l.selectors))

abbrev pub decreases-loop-selector : goal.decreases-loop-selector
decreases-loop-selector l = length l.rest
