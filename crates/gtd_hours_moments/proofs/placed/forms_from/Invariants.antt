-- The forms passed begin before the place, so no later place is theirs.
use Rattle.std.proofs.Common.{◌≡◌, ◌≤◌, ℕ, length}
use Rattle.gtd_hours_moments.specs.Places.{written_place}
use Rattle.gtd_hours_moments.proofs.placed.forms_from.Given as goal

abbrev pub invariant-loop-form : goal.invariant-loop-form
invariant-loop-form l = (p end : ℕ) → l.place ≤ p → written_place p end l.rest ≡ written_place p end l.places

abbrev pub decreases-loop-form : goal.decreases-loop-form
decreases-loop-form l = length l.rest
