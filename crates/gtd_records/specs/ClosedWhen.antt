-- When restrictions close an element, as far as this is seen without their domains.
use Rattle.std.specs.Prelude.{◌≡◌, ℕ, List, Any, None}
use Rattle.gtd_records.specs.Closing.{Concerns, Restriction}
use Rattle.gtd_records.specs.declared.closed_when.ClosedWhen.{ClosedWhen}
use Rattle.gtd_records.specs.declared.closed_when.ClosedWhen.TheVariants.{Never, Always, ByDomains}
use Rattle.gtd_rows.specs.declared.direction.Direction.{Direction}

module _ (element : ℕ) (direction : Direction) (vehicle : ℕ) where
  -- the restriction closes the element in the direction for the vehicle type, whatever the second
  pub record ConcernsElement (r : Restriction) : Type 0 where
    pub names : r.element ≡ element
    pub concerns : Concerns direction vehicle r

  -- it does so at every second, since it has no domain
  pub record ClosesAlways (r : Restriction) : Type 0 where
    pub names : r.element ≡ element
    pub concerns : Concerns direction vehicle r
    pub always : r.domain ≡ None

  -- No restriction concerns the element in the direction for the vehicle type; or one without a domain does; or some do, and each
  -- of them has a domain. Exactly one of the three is so.
  abbrev pub IsClosedWhen : List Restriction → ClosedWhen → Type 0
  IsClosedWhen found Never = Any ConcernsElement found → ⊥
  IsClosedWhen found Always = Any ClosesAlways found
  IsClosedWhen found ByDomains = Any ConcernsElement found × (Any ClosesAlways found → ⊥)
