-- Answers of files of hours that say the same. Hours are the same if they are open at the same seconds.
use Rattle.std.specs.Prelude.{◌≡◌, ◌↔◌, ◌⊎◌, ◌≤◌, ℕ, ℤ, List, [], ◌∷◌, length, Option, Some, None, Result, Ok, Err, ⊤}
use Rattle.gtd_hours.specs.Opening.{IsOpen}
use Rattle.gtd_hours_known.specs.declared.known.KnownHours.{KnownHours}
use Rattle.gtd_hours_options.specs.declared.fault.OptionsFault.{OptionsFault}
use Rattle.gtd_records.specs.Closing.{HoldsAt, Restriction}
use Rattle.gtd_hours_options.specs.Readings.{HasFault, HowRead, Reads}
use Rattle.gtd_hours_file.specs.declared.fault.HoursFileFault.{HoursFileFault}
use Rattle.gtd_hours_file.specs.declared.row.HoursRow.{HoursRow}
use Rattle.gtd_hours_file.specs.declared.row.RowHours.{RowHours}

-- each text of at most so many bytes is read, or has a first fault
abbrev pub IsEachRead : HowRead → ℕ → Type 0
IsEachRead how most = (text : List ℕ) → length text ≤ most
    → ((read : KnownHours) × Reads how text read) ⊎ ((bad : OptionsFault) × HasFault how text bad)

-- both rows have no hours, or both have some, which are open at the same seconds
abbrev pub AreSameHours : Option RowHours → Option RowHours → Type 0
AreSameHours None None = ⊤
AreSameHours (Some one) (Some other) = (second : ℤ) → IsOpen one.read.hours second ↔ IsOpen other.read.hours second
AreSameHours one other = ⊥

-- the same element, directions and vehicle types, and the same hours
pub record IsSameRow (one other : HoursRow) : Type 0 where
  pub element : one.element ≡ other.element
  pub closed : one.closed ≡ other.closed
  pub vehicles : one.vehicles ≡ other.vehicles
  pub hours : AreSameHours one.hours other.hours

-- rows that are the same one for one
abbrev pub AreSameRows : List HoursRow → List HoursRow → Type 0
AreSameRows [] [] = ⊤
AreSameRows (one ∷ ones) (other ∷ others) = IsSameRow one other × AreSameRows ones others
AreSameRows ones others = ⊥

-- the same rows, or the same list of faults
abbrev pub IsSameAnswer : Result (List HoursRow) (List HoursFileFault) → Result (List HoursRow) (List HoursFileFault) → Type 0
IsSameAnswer (Ok ones) (Ok others) = AreSameRows ones others
IsSameAnswer (Err ones) (Err others) = ones ≡ others
IsSameAnswer one other = ⊥

-- the same element, directions and vehicle types, and a domain that contains the same seconds
pub record IsSameRestriction (one other : Restriction) : Type 0 where
  pub element : one.element ≡ other.element
  pub closed : one.closed ≡ other.closed
  pub vehicles : one.vehicles ≡ other.vehicles
  pub seconds : (second : ℤ) → HoldsAt one.domain second ↔ HoldsAt other.domain second

-- restrictions that are the same one for one
abbrev pub AreSameRestrictions : List Restriction → List Restriction → Type 0
AreSameRestrictions [] [] = ⊤
AreSameRestrictions (one ∷ ones) (other ∷ others) = IsSameRestriction one other × AreSameRestrictions ones others
AreSameRestrictions ones others = ⊥
