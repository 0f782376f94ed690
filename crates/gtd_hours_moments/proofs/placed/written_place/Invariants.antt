-- The forms passed do not begin at the place, so it is searched for among the rest.
use Rattle.std.proofs.Common.{◌≡◌, length}
use Rattle.gtd_hours_moments.specs.Places.{written_place}
use Rattle.gtd_hours_moments.proofs.placed.written_place.Given as goal

abbrev pub invariant-loop-form : goal.invariant-loop-form
invariant-loop-form l = written_place l.place l.end l.rest ≡ written_place l.place l.end l.places

abbrev pub decreases-loop-form : goal.decreases-loop-form
decreases-loop-form l = length l.rest
