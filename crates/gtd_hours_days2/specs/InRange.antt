-- Which parts plain hours have.
use Rattle.std.specs.Prelude.{◌≡◌, ◌⊎◌, ◌≤◌, ℕ, nat_le, Bool, true, false, Option, Some, None, ⊤}
use Rattle.gtd_hours.specs.Ranges.{IsMonth, IsWeekday, IsWeeks, IsYears}
use Rattle.gtd_hours2.specs.Days.{MakeRange, is_easter}
use Rattle.gtd_hours2.specs.declared.values.DayOffset.{DayOffset}
use Rattle.gtd_hours2.specs.declared.values.HolidayKind.{HolidayKind}
use Rattle.gtd_hours2.specs.declared.values.HolidayKind.TheVariants as which
use Rattle.gtd_hours2.specs.declared.values.RulePart.{RulePart}
use Rattle.gtd_hours2.specs.declared.values.RulePart.TheVariants as part
use Rattle.gtd_hours2.specs.declared.values.YearlyDay.{YearlyDay}
use Rattle.gtd_hours_days2.specs.Dated.{IsDatedPart}
use Rattle.gtd_hours_days2.specs.Ends.{IsEnd}
use Rattle.gtd_hours_days2.specs.Nth.{IsNth}

-- years without a last one may go on to the last of the calendar
abbrev pub final_of : Option ℕ → ℕ
final_of None = 2799
final_of (Some last) = last

-- weeks that go back have no step
abbrev pub AreWeeks : Bool → ℕ → ℕ → ℕ → Type 0
AreWeeks true first last step = IsWeeks first last step
AreWeeks false first last step = (first ≤ 53) × (1 ≤ last)

-- an offset of public holidays is a year at most, and school holidays have none
abbrev pub IsHolidayOffset : HolidayKind → DayOffset → Type 0
IsHolidayOffset which.Public offset = offset.days ≤ 366
IsHolidayOffset which.School offset = offset.days ≡ 0

-- one day of Easter, or a range in the same order each year that is not of Easter
abbrev pub IsYearlyRange : YearlyDay → YearlyDay → Type 0
IsYearlyRange first last = ((is_easter first ≡ true) × (first ≡ last))
    ⊎ ((is_easter first ≡ false) × (is_easter last ≡ false) × MakeRange first last)

abbrev pub IsPartInRange : RulePart → Type 0
IsPartInRange (part.Years first last step) = IsYears first (final_of last) step
IsPartInRange (part.Months first last) = IsMonth first × IsMonth last
IsPartInRange (part.Days first last) = IsEnd first × IsEnd last × IsYearlyRange first last
IsPartInRange (part.Dated year first final last) = IsDatedPart year first final last
IsPartInRange (part.Weeks first last step) = AreWeeks (nat_le first last) first last step
IsPartInRange (part.Holidays kind offset) = IsHolidayOffset kind offset
IsPartInRange (part.Weekdays first last) = IsWeekday first × IsWeekday last
IsPartInRange (part.NthWeekday weekday number is_back offset) = IsNth weekday number is_back offset
IsPartInRange (part.Time first last tail) = ⊤
