-- Which days a range is that has been written with these numbers.
use Rattle.std.specs.Prelude.{◌≡◌, ◌⊎◌, ℕ, ◌+◌, ◌==◌, ◌&&◌, ◌||◌, nat_lt, Bool, if◌then◌else◌, ℤ, pos, ◌≤ℤ◌}
use Rattle.std.specs.Prelude.{Option, Some, None}
use Rattle.gtd_calendar.specs.Calendar.{IsCalendarYear, day_number}
use Rattle.gtd_hours.specs.Moving.{day_from}
use Rattle.gtd_hours.specs.Opening.{date_key}
use Rattle.gtd_hours.specs.declared.hours.Dated.{Dated}
use Rattle.gtd_hours.specs.declared.hours.MonthDay.{MonthDay}
use Rattle.gtd_hours.specs.declared.hours.Selector.TheVariants as selector
use Rattle.gtd_hours.specs.declared.hours.YearDate.{YearDate}
use Rattle.gtd_hours.specs.declared.places.End.TheVariants as end
use Rattle.gtd_hours.specs.declared.places.MonthPlace.{MonthPlace}
use Rattle.gtd_hours_days.specs.EasterRanges.{IsDayIn}
use Rattle.gtd_hours_days.specs.declared.yearly_day.YearlyDay.{YearlyDay}
use Rattle.gtd_hours_days.specs.declared.yearly_day.YearlyDay.TheVariants as yearly
use Rattle.gtd_hours_ranges.specs.declared.days.RangeDays.{RangeDays}
use Rattle.gtd_hours_ranges.specs.declared.days.RangeDays.TheVariants as days
use Rattle.gtd_hours_ranges.specs.declared.written.WrittenEnd.{WrittenEnd}
use Rattle.gtd_hours_ranges.specs.declared.written.WrittenEnd.TheVariants.{Day, Place, Easter}
use Rattle.gtd_hours_ranges.specs.declared.written.WrittenPlace.{WrittenPlace}
use Rattle.gtd_hours_ranges.specs.declared.written.WrittenRange.{WrittenRange}

-- ---- ends

-- the place is the one that is written, so many days after or before its weekday
abbrev pub IsPlaceOf : WrittenPlace → ℕ → Bool → MonthPlace → Type 0
IsPlaceOf written days before x =
    (x.month ≡ written.month) × (x.place.place.weekday ≡ written.weekday) × (x.place.place.number ≡ written.number)
    × (x.place.is_back ≡ written.is_back) × (x.place.days ≡ days) × (x.place.is_before ≡ before)

-- the end is the one that is written
abbrev pub IsEndOf : WrittenEnd → YearlyDay → Type 0
IsEndOf (Day month day) (yearly.Calendar (end.Date x)) = (x.month ≡ month) × (x.day ≡ day)
IsEndOf (Place place days before) (yearly.Calendar (end.Place x)) = IsPlaceOf place days before x
IsEndOf (Easter days before from) (yearly.Easter x) = x.days ≡ day_from before days (pos 0)
IsEndOf written x = ⊥

-- ---- dates

abbrev pub day_of : YearDate → ℤ
day_of date = day_number (pos date.year) date.month date.day

-- the date is that of an end in a year, and both are of the calendar
abbrev pub IsDateIn : YearlyDay → ℕ → YearDate → Type 0
IsDateIn x year date = IsCalendarYear (pos year) × IsDayIn x year (day_of date)

-- and not before the first date
abbrev pub IsLateDate : YearlyDay → ℕ → YearDate → YearDate → Type 0
IsLateDate x year first date = IsDateIn x year date × (day_of first ≤ℤ day_of date)

-- A day of a month comes before a date in its year. Also in a year without it, 29 February comes before 1 March.
abbrev pub is_earlier : ℕ → MonthDay → YearDate → Bool
is_earlier year x first =
    nat_lt year first.year || ((year == first.year) && nat_lt (date_key x.month x.day) (date_key first.month first.day))

-- the year of a last day that is written without one: that of the first or, if it would come before the first there, the next
abbrev pub next_year : ℕ → MonthDay → YearDate → ℕ
next_year year x first = if is_earlier year x first then year + 1 else year

-- the last date, where its year is not written and the year of the first is: in the same year or, if it would come before the
-- first there, in the next one
abbrev pub IsLaterDate : YearlyDay → ℕ → YearDate → YearDate → Type 0
IsLaterDate x year first date =
    IsLateDate x year first date
    ⊎ (IsDateIn x (year + 1) date × ((late : YearDate) → IsLateDate x year first late → ⊥))

abbrev pub IsNextDate : YearlyDay → ℕ → YearDate → YearDate → Type 0
IsNextDate (yearly.Calendar (end.Date x)) year first date =
    IsDateIn (yearly.Calendar (end.Date x)) (next_year year x first) date
IsNextDate (yearly.Calendar (end.Place x)) year first date = IsLaterDate (yearly.Calendar (end.Place x)) year first date
IsNextDate (yearly.Easter x) year first date = IsLaterDate (yearly.Easter x) year first date

-- the last date: in its own year, or in the year of the first or the next one
abbrev pub IsLastDate : Option ℕ → YearlyDay → ℕ → YearDate → YearDate → Type 0
IsLastDate None x year first date = IsNextDate x year first date
IsLastDate (Some last_year) x year first date = IsDateIn x last_year date

-- ---- ranges

-- the dates from the first end in a year to the last one
abbrev pub AreDates : ℕ → Option ℕ → YearlyDay → YearlyDay → Dated → Type 0
AreDates year last_year first last x = IsDateIn first year x.first × IsLastDate last_year last year x.first x.last

-- The days from the first end to the last one: of each year, or of the years that are written. Where Easter is an end and no
-- years are written, they are listed.
abbrev pub AreDays : Option ℕ → Option ℕ → YearlyDay → YearlyDay → RangeDays → Type 0
AreDays None None (yearly.Calendar first) (yearly.Calendar last) (days.Always (selector.Moving x)) =
    (x.first ≡ first) × (x.last ≡ last)
AreDays None None first last (days.Easter x) = (x.first ≡ first) × (x.last ≡ last)
AreDays (Some year) last_year first last (days.Always (selector.Dated x)) = AreDates year last_year first last x
AreDays year last_year first last x = ⊥

-- the days of a range that is written
abbrev pub IsDaysOf : WrittenRange → RangeDays → Type 0
IsDaysOf range x =
    (first : YearlyDay) × (last : YearlyDay) × IsEndOf range.first first × IsEndOf range.last last
    × AreDays range.year range.last_year first last x

-- ---- the first Easter

-- where the first Easter of a range stands
abbrev pub easter_place : WrittenEnd → WrittenEnd → ℕ
easter_place (Easter days before from) last = from
easter_place first (Easter days before from) = from
easter_place first last = 0
