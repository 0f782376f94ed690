use Rattle.std.proofs.Common.{◌≡◌, ◌+◌, length, if◌then◌else◌}
use Rattle.gtd_hours.specs.Cost.{some_falls_back}
use Rattle.gtd_hours_domain.specs.Translation.{up_to_fallback}
use Rattle.gtd_hours_domain.proofs.cost.up_to_fallback.Given as goal

-- the last one is among those that are left, or it was passed
abbrev pub invariant-loop-rule : goal.invariant-loop-rule
invariant-loop-rule l =
    (l.passed + length l.rest ≡ length l.rules)
    × ((if some_falls_back l.rest then l.passed + up_to_fallback l.rest else l.last) ≡ up_to_fallback l.rules)

abbrev pub decreases-loop-rule : goal.decreases-loop-rule
decreases-loop-rule l = length l.rest
