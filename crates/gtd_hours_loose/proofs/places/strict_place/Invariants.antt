-- The parts passed are not written at the place, so it is searched for among the rest.
use Rattle.std.proofs.Common.{◌≡◌, length}
use Rattle.gtd_hours_loose.specs.Mending.{strict_place}
use Rattle.gtd_hours_loose.proofs.places.strict_place.Given as goal

abbrev pub invariant-loop-part : goal.invariant-loop-part
invariant-loop-part l = strict_place l.place l.end l.rest ≡ strict_place l.place l.end l.parts

abbrev pub decreases-loop-part : goal.decreases-loop-part
decreases-loop-part l = length l.rest
