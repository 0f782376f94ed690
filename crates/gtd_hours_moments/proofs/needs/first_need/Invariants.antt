-- The forms passed need nothing, so the first need is among the rest.
use Rattle.std.proofs.Common.{◌≡◌, length}
use Rattle.gtd_hours_moments.specs.Needs.{first_need}
use Rattle.gtd_hours_moments.proofs.needs.first_need.Given as goal

abbrev pub invariant-loop-form : goal.invariant-loop-form
invariant-loop-form l = first_need l.rest l.clocks ≡ first_need l.forms l.clocks

abbrev pub decreases-loop-form : goal.decreases-loop-form
decreases-loop-form l = length l.rest
