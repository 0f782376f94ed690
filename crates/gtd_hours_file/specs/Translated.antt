-- The restrictions that rows of hours are translated to, and what a row closes.
use Rattle.std.specs.Prelude.{◌≡◌, ◌↔◌, ℕ, ℤ, List, [], ◌∷◌, Option, Some, None, IfSome}
use Rattle.gtd_core.specs.Parts.{domain_tree}
use Rattle.gtd_core.specs.Trees.{Tree}
use Rattle.gtd_core.specs.declared.domain.Domain.{Domain}
use Rattle.gtd_eval.specs.Membership.{InDomain}
use Rattle.gtd_hours.specs.Opening.{IsOpen}
use Rattle.gtd_records.specs.Closing.{Restriction}
use Rattle.gtd_rows.specs.Serving.{ClosesDirection, Serves}
use Rattle.gtd_rows.specs.declared.direction.Direction.{Direction}
use Rattle.gtd_hours_file.specs.declared.row.HoursRow.{HoursRow}
use Rattle.gtd_hours_file.specs.declared.row.RowHours.{RowHours}

-- a domain that contains exactly the seconds at which the hours are open; none if there are no hours
abbrev pub IsDomainOf : Option RowHours → Option Tree → Type 0
IsDomainOf None tree = tree ≡ None
IsDomainOf (Some given) tree =
    (domain : Domain) × (tree ≡ Some (domain_tree domain)) × ((s : ℤ) → InDomain domain s ↔ IsOpen given.read.hours s)

-- the restriction has the row's element, directions and vehicle types, and a domain of its hours
pub record IsTranslated (row : HoursRow) (r : Restriction) : Type 0 where
  pub element : r.element ≡ row.element
  pub closed : r.closed ≡ row.closed
  pub vehicles : r.vehicles ≡ row.vehicles
  pub domain : IsDomainOf row.hours r.domain

-- restrictions of rows, one for one
abbrev pub IsTranslation : List HoursRow → List Restriction → Type 0
IsTranslation [] found = found ≡ []
IsTranslation (row ∷ rows) found =
    (first : Restriction) × (rest : List Restriction)
    × IsTranslated row first × IsTranslation rows rest × (found ≡ first ∷ rest)

-- The row closes the element in the direction for the vehicle type at the second: its hours are open then, or it has none.
pub record RowCloses (element : ℕ) (direction : Direction) (vehicle : ℕ) (second : ℤ) (row : HoursRow) : Type 0 where
  pub names : row.element ≡ element
  pub closes : ClosesDirection row.closed direction
  pub serves : Serves row.vehicles vehicle
  pub holds : IfSome row.hours (λ given. IsOpen given.read.hours second)
