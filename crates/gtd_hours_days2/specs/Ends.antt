-- Which days of each year plain hours have.
use Rattle.std.specs.Prelude.{◌≡◌, ◌≤◌, ℕ, Bool, true, ℤ, pos, ◌≤ℤ◌, ⊤}
use Rattle.gtd_calendar.specs.declared.day.DayFields.{DayFields}
use Rattle.gtd_calendar.specs.Calendar.{IsCalendarDay, IsCalendarYear}
use Rattle.gtd_hours.specs.Ranges.{IsMonth, IsMonthDay, IsMovable, IsWeekdayPlace, IsYearDate}
use Rattle.gtd_hours.specs.ComputedPlaces.{IsInOrder, end_day}
use Rattle.gtd_hours.specs.Moving.{is_yearly, last_year}
use Rattle.gtd_hours.specs.Opening.{IsRound, date_key}
use Rattle.gtd_hours.specs.declared.places.End.{End}
use Rattle.gtd_hours.specs.declared.places.End.TheVariants as end
use Rattle.gtd_hours.specs.declared.places.MonthPlace.{MonthPlace}
use Rattle.gtd_hours2.specs.Days.{day_in}
use Rattle.gtd_hours2.specs.declared.values.DayOffset.{DayOffset}
use Rattle.gtd_hours2.specs.declared.values.YearlyDay.{YearlyDay}
use Rattle.gtd_hours2.specs.declared.values.YearlyDay.TheVariants as yearly

-- a weekday of a month by its number, with days after or before it
abbrev pub IsMonthPlace : ℕ → ℕ → ℕ → Bool → DayOffset → Type 0
IsMonthPlace month weekday number is_back offset =
    IsWeekdayPlace weekday number × IsMovable number is_back offset.days offset.is_before × IsMonth month

-- this place is that weekday
pub record IsPlaceOf (m w k : ℕ) (back : Bool) (offset : DayOffset) (x : MonthPlace) : Type 0 where
  pub month : x.month ≡ m
  pub weekday : x.place.place.weekday ≡ w
  pub number : x.place.place.number ≡ k
  pub is_back : x.place.is_back ≡ back
  pub days : x.place.days ≡ offset.days
  pub is_before : x.place.is_before ≡ offset.is_before

-- A day of each year. Easter has at most 366 days after or before it.
abbrev pub IsEnd : YearlyDay → Type 0
IsEnd (yearly.Date month day) = IsMonthDay month day
IsEnd (yearly.NthWeekday month weekday number is_back offset) = IsMonthPlace month weekday number is_back offset
IsEnd (yearly.Easter offset) = offset.days ≤ 366

-- a year has the day, and the calendar has it in that year
abbrev pub IsDayOf : ℕ → YearlyDay → Type 0
IsDayOf year (yearly.Date month day) = IsYearDate year month day
IsDayOf year (yearly.NthWeekday month weekday number is_back offset) =
    IsMonthPlace month weekday number is_back offset × IsCalendarYear (pos year)
    × IsCalendarDay (day_in (yearly.NthWeekday month weekday number is_back offset) (pos year))
IsDayOf year (yearly.Easter offset) =
    (offset.days ≤ 366) × IsCalendarYear (pos year) × IsCalendarDay (day_in (yearly.Easter offset) (pos year))

-- ---- as plain hours have them

-- the end is this date or this weekday
abbrev pub IsEndOf : YearlyDay → End → Type 0
IsEndOf (yearly.Date month day) (end.Date x) = (x.month ≡ month) × (x.day ≡ day)
IsEndOf (yearly.NthWeekday month weekday number is_back offset) (end.Place x) = IsPlaceOf month weekday number is_back offset x
IsEndOf e x = ⊥

abbrev pub IsPlainEnd : YearlyDay → Type 0
IsPlainEnd (yearly.Easter offset) = ⊥
IsPlainEnd e = IsEnd e

-- two ends are in order in each year
abbrev pub AreOrdered : Bool → End → End → Type 0
AreOrdered over first last = (y : ℤ) → IsInOrder over first last y

-- The ends make a range: two dates always do, others if each year has them and they are in the same order in all years.
abbrev pub AreEnds : End → End → Type 0
AreEnds (end.Date a) (end.Date b) = ⊤
AreEnds a b = (is_yearly a ≡ true) × (is_yearly b ≡ true) × ((over : Bool) × AreOrdered over a b)

-- day n, which has the fields f, is in the range
abbrev pub IsBetweenEnds : End → End → ℤ → DayFields → Type 0
IsBetweenEnds (end.Date a) (end.Date b) n f =
    IsRound (date_key a.month a.day) (date_key b.month b.day) (date_key f.month f.day)
IsBetweenEnds a b n f = (over : Bool) × AreOrdered over a b
    × ((y : ℤ) × (end_day a y ≤ℤ n) × (n ≤ℤ end_day b (last_year over y)))
