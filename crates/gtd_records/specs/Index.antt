-- How the restrictions of a file are found by their element.
use Rattle.std.specs.Prelude.{◌≡◌, ◌↔◌, ◌<◌, ◌≤◌, ℕ, ℤ, List, Option, length, slice_index_or}
use Rattle.std.specs.List.{All, Contains}
use Rattle.std.specs.List.Sorted.{IsNonDecreasingBy}
use Rattle.gtd_core.specs.Limits.{most_rows}
use Rattle.gtd_core.specs.Trees.{Tree}
use Rattle.gtd_core.specs.Seconds.{Within}
use Rattle.gtd_core.specs.Whole.{whole}
use Rattle.gtd_core.specs.declared.horizon.Horizon.{Horizon}
use Rattle.gtd_records.specs.Closing.{AreElements, Concerns, HoldsAt, IsClosed, IsOpen, Restriction}
use Rattle.gtd_records.specs.RowPlaces.{place_of}
use Rattle.gtd_rows.specs.declared.direction.Direction.{Direction}
use Rattle.gtd_places.specs.declared.place.RowPlace.{RowPlace}

-- the place is that of a row: it has the row's element, directions and vehicle types
abbrev pub IsPlaceOfRow : List Restriction → RowPlace → Type 0
IsPlaceOfRow rows p = (r : Restriction) × (p.row < length rows) × (slice_index_or rows p.row r ≡ r) × (p ≡ place_of r p.row)

-- the places of all rows, by element
pub record ArePlaces (rows : List Restriction) (places : List RowPlace) : Type 0 where
  pub sorted : IsNonDecreasingBy (λ (p : RowPlace). p.element) places
  pub sound : All (IsPlaceOfRow rows) places
  pub each : (k : ℕ) (r : Restriction) → k < length rows → slice_index_or rows k r ≡ r
      → Contains places (place_of r k)
  pub many : length places ≡ length rows

-- each row of the element has its place among the first ones
abbrev pub AllSeen : List Restriction → List RowPlace → ℕ → ℕ → Type 0
AllSeen rows part element stop =
    (row : ℕ) (r : Restriction) → row < length rows → slice_index_or rows row r ≡ r → r.element ≡ element
    → (j : ℕ) × (j < stop) × (slice_index_or part j (place_of r row) ≡ place_of r row)

-- the places of the element's rows
pub record AreElementPlaces (rows : List Restriction) (element : ℕ) (part : List RowPlace) : Type 0 where
  pub sound : (k : ℕ) (d : RowPlace) → k < length part → ((slice_index_or part k d).row < length rows)
      × ((r : Restriction) → r ≡ slice_index_or rows (slice_index_or part k d).row r → r.element ≡ element)
  pub says : (k : ℕ) (d : RowPlace) → k < length part
      → (r : Restriction) → r ≡ slice_index_or rows (slice_index_or part k d).row r
      → slice_index_or part k d ≡ place_of r (slice_index_or part k d).row
  pub all : AllSeen rows part element (length part)
  pub few : length part ≤ length rows

-- each of the places is that of a row
abbrev pub ArePlacesWithin : List Restriction → List RowPlace → Type 0
ArePlacesWithin rows part = (k : ℕ) (d : RowPlace) → k < length part → (slice_index_or part k d).row < length rows

-- the restriction at a place before this one has this domain, and concerns the direction and the vehicle type
pub record IsRepeated (rows : List Restriction) (part : List RowPlace) (direction : Direction) (vehicle : ℕ) (stop : ℕ)
    (domain : Option Tree) : Type 0 where
  pub before : ℕ
  pub place : RowPlace
  pub row : Restriction
  pub early : before < stop
  pub at : slice_index_or part before place ≡ place
  pub stands : slice_index_or rows place.row row ≡ row
  pub concerns : Concerns direction vehicle row
  pub same : row.domain ≡ domain

-- the places and the elements of all rows, of which there are no more than a file may have
pub record IsIndexed (rows : List Restriction) (places : List RowPlace) (elements : List ℕ) : Type 0 where
  pub placed : ArePlaces rows places
  pub named : AreElements rows elements
  pub few : length rows ≤ most_rows

-- Of the seconds of the horizon, the set has those at which a restriction closes the element in the direction for the vehicle
-- type.
pub record AreClosing (rows : List Restriction) (element : ℕ) (direction : Direction) (vehicle : ℕ) (horizon : Horizon)
    (set : ℤ → Type 0) : Type 0 where
  pub sound : (t : ℤ) → set t → IsClosed rows element direction vehicle t
  pub complete : (t : ℤ) → Within (whole horizon) t → (set t → ⊥) → IsOpen rows element direction vehicle t

-- the restrictions close the element at the seconds of this row's restriction, and at no others
pub record IsSoleRow (rows : List Restriction) (element : ℕ) (direction : Direction) (vehicle row : ℕ) : Type 0 where
  pub within : row < length rows
  pub closes : (r : Restriction) → r ≡ slice_index_or rows row r → (t : ℤ)
      → IsClosed rows element direction vehicle t ↔ HoldsAt r.domain t
