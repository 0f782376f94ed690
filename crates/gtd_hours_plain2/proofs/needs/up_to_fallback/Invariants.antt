-- the last one is among those that are left, or it was passed
use Rattle.std.proofs.Common.{◌≡◌, ◌+◌, length, if◌then◌else◌}
use Rattle.gtd_hours_plain2.specs.Needs.{some_falls_back, up_to_fallback}
use Rattle.gtd_hours_plain2.proofs.needs.up_to_fallback.Given as goal

abbrev pub invariant-loop-rule : goal.invariant-loop-rule
invariant-loop-rule l =
    (if some_falls_back l.rest then l.passed + up_to_fallback l.rest else l.last) ≡ up_to_fallback l.fn.rules

abbrev pub decreases-loop-rule : goal.decreases-loop-rule
decreases-loop-rule l = length l.rest
