-- The rules that were passed need nothing.
use Rattle.std.proofs.Common.{◌≡◌, length}
use Rattle.gtd_hours_known.specs.Needs.{first_need, up_to_fallback}
use Rattle.gtd_hours_known.proofs.needs.first_need.Given as goal

abbrev pub invariant-loop-rule : goal.invariant-loop-rule
invariant-loop-rule l = (first_need l.known l.rest ≡ first_need l.known l.rules) × (l.left ≡ up_to_fallback l.rest)

abbrev pub decreases-loop-rule : goal.decreases-loop-rule
decreases-loop-rule l = length l.rest
