-- What is answered of changes and of closed elements.
use Rattle.std.specs.Prelude.{ℕ, ℤ, Bool, List}
use Rattle.gtd_core.specs.Horizons.{IsHorizon}
use Rattle.gtd_core.specs.Seconds.{IsHorizonSecond, day_of_second}
use Rattle.gtd_eval.specs.Ever.{NeverChangesAfter}
use Rattle.gtd_records.specs.Closing.{IsClosed, Restriction}
use Rattle.gtd_spans.specs.Change.{NeverChanges}
use Rattle.gtd_report.specs.Run.{IsVehicleType}
use Rattle.gtd_handles.specs.Answers.{IsRange, IsWhether, direction_of}

-- membership in the set never changes after the second
pub record StaysEver (set : ℤ → Type 0) (second : ℤ) : Type 0 where
  pub stays : NeverChangesAfter set second

-- membership in the set never changes after the one second and before the other
pub record StaysUntil (set : ℤ → Type 0) (second until : ℤ) : Type 0 where
  pub stays : NeverChanges set second until

-- the days from that of the second up to the other are a horizon
pub record IsHorizonAfter (second until_day : ℤ) : Type 0 where
  pub horizon : IsHorizon (day_of_second second) until_day

-- likewise, and the number is a vehicle type
pub record IsWayHorizon (vehicle : ℕ) (second until_day : ℤ) : Type 0 where
  pub vehicle_type : IsVehicleType vehicle
  pub horizon : IsHorizonAfter second until_day

-- the range is answered exactly if the numbers are out of theirs
pub record HasRange (in_range : Type 0) (answer : ℕ) : Type 0 where
  pub range : IsRange in_range answer

-- Whether some record closes the element: yes exactly if one does, of numbers in their ranges.
pub record IsClosedAnswer (found : List Restriction) (element : ℕ) (negative : Bool) (vehicle : ℕ) (second : ℤ) (answer : ℕ)
    : Type 0 where
  pub whether : IsWhether (IsVehicleType vehicle × IsHorizonSecond second)
      (IsClosed found element (direction_of negative) vehicle second) answer
