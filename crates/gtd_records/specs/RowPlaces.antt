-- The place of a row, with the directions and vehicle types of the row.
use Rattle.std.specs.Prelude.{ℕ, List, [], ◌∷◌}
use Rattle.gtd_places.specs.declared.place.RowDirections.{RowDirections}
use Rattle.gtd_places.specs.declared.place.RowDirections.TheVariants.{Positive, Negative, Both}
use Rattle.gtd_places.specs.declared.place.RowPlace.{RowPlace}
use Rattle.gtd_places.specs.declared.place.RowVehicles.{RowVehicles}
use Rattle.gtd_places.specs.declared.place.RowVehicles.TheVariants.{Every, One, SeeRow}
use Rattle.gtd_records.specs.Closing.{Restriction}
use Rattle.gtd_rows.specs.declared.direction.Closed.{Closed}
use Rattle.gtd_rows.specs.declared.direction.Closed.TheVariants as closed
use Rattle.gtd_rows.specs.declared.direction.Direction.TheVariants as direction
use Rattle.gtd_rows.specs.declared.vehicles.Vehicles.{Vehicles}
use Rattle.gtd_rows.specs.declared.vehicles.Vehicles.TheVariants as vehicles

-- the directions that the row closes
abbrev pub directions_of : Closed → RowDirections
directions_of (closed.One direction.Positive) = Positive
directions_of (closed.One direction.Negative) = Negative
directions_of closed.Both = Both

-- the types with these codes: a single one, or else those of the row
abbrev pub one_or_row : List ℕ → RowVehicles
one_or_row [] = SeeRow
one_or_row (code ∷ []) = One code
one_or_row (code ∷ next ∷ more) = SeeRow

-- every vehicle type, a single one, or else those of the row
abbrev pub vehicles_of : Vehicles → RowVehicles
vehicles_of vehicles.Every = Every
vehicles_of (vehicles.Only types) = one_or_row types
vehicles_of (vehicles.AllBut types) = SeeRow

-- the place of a restriction whose row comes after so many others
abbrev pub place_of : Restriction → ℕ → RowPlace
place_of r row = record {
  element = r.element;
  row = row;
  directions = directions_of r.closed;
  vehicles = vehicles_of r.vehicles;
}
