use Rattle.std.proofs.Common.{◌≡◌, ◌≤◌, length}
use Rattle.gtd_hours.specs.Cost.{cost_after, counted, most_counted}
use Rattle.gtd_hours_domain.specs.Translation.{up_to_fallback}
use Rattle.gtd_hours_domain.proofs.cost.cost_of.Given as goal

-- what the rules that are left make of what is counted so far
abbrev pub invariant-loop-rule : goal.invariant-loop-rule
invariant-loop-rule l =
    (l.opened ≤ most_counted) × (counted (cost_after l.rest l.opened l.closed) ≡ counted (cost_after l.hours.rules.items 0 0))
    × (l.left ≡ up_to_fallback l.rest)

abbrev pub decreases-loop-rule : goal.decreases-loop-rule
decreases-loop-rule l = length l.rest
