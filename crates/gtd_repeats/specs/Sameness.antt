-- When rows of a record file say the same, and when one of them says nothing that another does not say.
use Rattle.std.specs.Prelude.{◌≡◌, ◌<◌, ◌↔◌, ℕ, ℤ, List, length, get_or, Option, None}
use Rattle.gtd_core.specs.Seconds.{IsHorizonSecond}
use Rattle.gtd_core.specs.Trees.{Tree}
use Rattle.gtd_records.specs.Closing.{HoldsAt, Restriction}
use Rattle.gtd_rows.specs.Serving.{ClosesDirection, Serves}
use Rattle.gtd_rows.specs.declared.direction.Closed.{Closed}
use Rattle.gtd_rows.specs.declared.direction.Closed.TheVariants.{Both}
use Rattle.gtd_rows.specs.declared.direction.Direction.{Direction}
use Rattle.gtd_rows.specs.declared.vehicles.Vehicles.{Vehicles}
use Rattle.gtd_rows.specs.declared.vehicles.Vehicles.TheVariants.{Every}
use Rattle.gtd_report.specs.Run.{IsVehicleType}
use Rattle.gtd_repeats.specs.declared.alike.Kind.{Kind}
use Rattle.gtd_repeats.specs.declared.alike.Kind.TheVariants as kind

-- Both hold at the same seconds of the days from 1901-01-01 to 2699-12-31. Where no start gives a year, these are all seconds
-- ever: `laws::ever`.
abbrev pub HoldSame : Option Tree → Option Tree → Type 0
HoldSame first second = (t : ℤ) → IsHorizonSecond t → HoldsAt first t ↔ HoldsAt second t

-- at each of these seconds at which the one holds the other holds, too
abbrev pub HoldsWithin : Option Tree → Option Tree → Type 0
HoldsWithin domain other = (t : ℤ) → IsHorizonSecond t → HoldsAt domain t → HoldsAt other t

-- the same vehicle types, and only such as are of the other, too
abbrev pub ServeSame : Vehicles → Vehicles → Type 0
ServeSame first second = (vehicle : ℕ) → IsVehicleType vehicle → Serves first vehicle ↔ Serves second vehicle

abbrev pub ServesWithin : Vehicles → Vehicles → Type 0
ServesWithin vehicles other = (vehicle : ℕ) → IsVehicleType vehicle → Serves vehicles vehicle → Serves other vehicle

-- only directions that the other closes, too
abbrev pub ClosesWithin : Closed → Closed → Type 0
ClosesWithin closed other = (direction : Direction) → ClosesDirection closed direction → ClosesDirection other direction

-- The rows say the same: the same element, directions, vehicle types and seconds.
pub record IsSameRow (first second : Restriction) : Type 0 where
  pub element : first.element ≡ second.element
  pub closed : first.closed ≡ second.closed
  pub vehicles : ServeSame first.vehicles second.vehicles
  pub seconds : HoldSame first.domain second.domain

-- The rows have the same element, and the other closes each direction and vehicle type that the one closes.
pub record MayBeWithin (row other : Restriction) : Type 0 where
  pub element : row.element ≡ other.element
  pub closed : ClosesWithin row.closed other.closed
  pub vehicles : ServesWithin row.vehicles other.vehicles

-- The row is within another of its element: each direction, vehicle type and second that it closes, the other closes.
pub record IsWithinRow (row other : Restriction) : Type 0 where
  pub element : row.element ≡ other.element
  pub closed : ClosesWithin row.closed other.closed
  pub vehicles : ServesWithin row.vehicles other.vehicles
  pub seconds : HoldsWithin row.domain other.domain

-- the three ways in which rows are alike: their domains have one canonical text, or the same seconds; or they say the same
abbrev pub AreAlike : Kind → Restriction → Restriction → Type 0
AreAlike kind.Text first second = first.domain ≡ second.domain
AreAlike kind.Seconds first second = HoldSame first.domain second.domain
AreAlike kind.Row first second = IsSameRow first second

-- the row of a file with so many rows before it; past its end a row that says nothing
abbrev pub row_at : List Restriction → ℕ → Restriction
row_at rows row = get_or rows row (record { element = 0; closed = Both; vehicles = Every; domain = None })

-- both are rows of the file, and alike
abbrev pub AreAlikeIn : List Restriction → Kind → ℕ → ℕ → Type 0
AreAlikeIn rows kind j k = (j < length rows) × (k < length rows) × AreAlike kind (row_at rows j) (row_at rows k)
