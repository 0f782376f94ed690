-- The forms passed do not last too long, so the first that does is among the rest.
use Rattle.std.proofs.Common.{◌≡◌, length}
use Rattle.gtd_hours_moments.specs.Needs.{too_long}
use Rattle.gtd_hours_moments.proofs.needs.too_long.Given as goal

abbrev pub invariant-loop-form : goal.invariant-loop-form
invariant-loop-form l = too_long l.rest l.clocks ≡ too_long l.forms l.clocks

abbrev pub decreases-loop-form : goal.decreases-loop-form
decreases-loop-form l = length l.rest
