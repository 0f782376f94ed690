use Rattle.std.proofs.Common.{◌<◌}
use Rattle.std.specs.List.{AllWithin}
use Rattle.gtd_places.specs.declared.place.RowPlace.{RowPlace}
use Rattle.gtd_places.proofs.sections.places_below_near.Given as goal

-- the places so far are of elements below the given one
abbrev pub invariant-loop-at : goal.invariant-loop-at
invariant-loop-at l = AllWithin (λ (p : RowPlace). p.element < l.element) l.places 0 l.at
