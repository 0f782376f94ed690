-- Which written numbers and times stand together in one piece of a text of opening hours.
use Rattle.std.specs.Prelude.{ℕ, ◌≤◌, ◌<◌, ◌+◌, ◌*◌, Option, Some, None, IfSome, option_map, pos}
use Rattle.gtd_hours.specs.Calendar.{month_length}
use Rattle.gtd_hours.specs.Ranges.{IsTimeRange}
use Rattle.gtd_hours_parts.specs.declared.digits.Digits.{Digits}
use Rattle.gtd_hours_parts.specs.declared.clock.ClockTime.{ClockTime}
use Rattle.gtd_hours_parts.specs.Numbers.{IsStepNumber, IsWeekNumber, IsYearNumber}
use Rattle.gtd_hours_parts.specs.Dates.{EndsOn, IsDayOfYear, IsWrittenDay, last_year}
use Rattle.gtd_hours_parts.specs.Times.{IsBegin, IsEnd, minute_of}
use Rattle.gtd_hours_parts.specs.declared.piece.WrittenDate.{WrittenDate}
use Rattle.gtd_hours_parts.specs.declared.piece.LastDate.{LastDate}
use Rattle.gtd_hours_parts.specs.declared.piece.LastDate.TheVariants as last_date

-- two numbers of a kind, the second not before the first
abbrev pub IsRange : (Digits → Type 0) → Digits → Digits → Type 0
IsRange Is first last = Is first × Is last × (first.value ≤ last.value)

-- the last year of the calendar that is computed with, and the first and the last week
abbrev pub final_year : Digits
final_year = record { value = 2799; count = 4 }

abbrev pub week_one : Digits
week_one = record { value = 1; count = 1 }

abbrev pub final_week : Digits
final_week = record { value = 53; count = 2 }

-- every so many years from one to the last of the calendar: at most 128 of them, since a domain holds no more
abbrev pub AreFewYears : Digits → Digits → Type 0
AreFewYears first step = IsStepNumber step × (2799 < first.value + 128 * step.value)

-- two weeks, the second before the first
abbrev pub AreBackWeeks : Digits → Digits → Type 0
AreBackWeeks first last = IsWeekNumber first × IsWeekNumber last × (last.value < first.value)

-- a day that the month has: in that year, or in leap years if no year is written
abbrev pub IsDay : Option Digits → ℕ → Digits → Type 0
IsDay None month day = IsWrittenDay month day
IsDay (Some year) month day = IsDayOfYear year.value month day

-- a date
abbrev pub IsWrittenDate : WrittenDate → Type 0
IsWrittenDate date = IfSome date.year IsYearNumber × IsDay date.year date.month date.day

-- a date without a year, and one with a year
abbrev pub undated : ℕ → Digits → WrittenDate
undated month day = record { year = None; month = month; day = day }

abbrev pub dated : Digits → ℕ → Digits → WrittenDate
dated year month day = record { year = Some year; month = month; day = day }

-- A range that begins with a date of this year ends with a year, a month and a day. Only after a date with a year may the last
-- one have a year. If it has none then, it is in the same year or, if it would come before the first there, in the next one.
abbrev pub IsLastDay : Option Digits → ℕ → Digits → Option Digits → ℕ → Digits → Type 0
IsLastDay None first_month first_day None month day = IsWrittenDay month day
IsLastDay None first_month first_day (Some year) month day = ⊥
IsLastDay (Some first) first_month first_day None month day =
    EndsOn first.value first_month first_day.value (last_year first.value first_month first_day.value month day.value) month day
IsLastDay (Some first) first_month first_day (Some year) month day =
    IsYearNumber year × EndsOn first.value first_month first_day.value year.value month day

-- a range that begins with this date ends with that day or date
abbrev pub EndsRange : WrittenDate → LastDate → Type 0
EndsRange first (last_date.Day day) = IsLastDay first.year first.month first.day None first.month day
EndsRange first (last_date.Date last) = IsLastDay first.year first.month first.day last.year last.month last.day

-- a date, or the range from it to a day or a date
abbrev pub AreWrittenDates : WrittenDate → Option LastDate → Type 0
AreWrittenDates first last = IfSome last (EndsRange first)

-- the year of a last date, where the first one has this year
abbrev pub year_or_next : ℕ → WrittenDate → Option Digits → ℕ → Digits → ℕ
year_or_next year first None month day = last_year year first.month first.day.value month day.value
year_or_next year first (Some written) month day = written.value

abbrev pub year_at_end : ℕ → WrittenDate → LastDate → ℕ
year_at_end year first (last_date.Day day) = year_or_next year first None first.month day
year_at_end year first (last_date.Date last) = year_or_next year first last.year last.month last.day

-- the year, if there is one, and the month in which a date or a range of dates ends
abbrev pub end_year : WrittenDate → Option LastDate → Option Digits
end_year first None = first.year
end_year first (Some last) =
    option_map (λ (year : Digits). record { value = year_at_end year.value first last; count = 4 }) first.year

abbrev pub end_month : WrittenDate → Option LastDate → ℕ
end_month first None = first.month
end_month first (Some (last_date.Day day)) = first.month
end_month first (Some (last_date.Date last)) = last.month

-- a day of that month
abbrev pub day_behind : WrittenDate → Option LastDate → Digits → WrittenDate
day_behind first last day = record { year = end_year first last; month = end_month first last; day = day }

-- the first day of a month of a year, and the last one
abbrev pub first_day_of : Digits → ℕ → WrittenDate
first_day_of year month = record { year = Some year; month = month; day = record { value = 1; count = 1 } }

abbrev pub last_day_of : Digits → ℕ → WrittenDate
last_day_of year month =
    record { year = Some year; month = month; day = record { value = month_length (pos year.value) month; count = 2 } }

-- `2024 Dec-2026 Mar`: from the first day of a month to the last one of another
abbrev pub AreMonthsOfYears : Digits → ℕ → Digits → ℕ → Type 0
AreMonthsOfYears first month last last_month = EndsRange (first_day_of first month) (last_date.Date (last_day_of last last_month))

-- a range of times
abbrev pub AreWrittenTimes : ClockTime → ClockTime → Type 0
AreWrittenTimes begin last = IsBegin begin × IsEnd last × IsTimeRange (minute_of begin) (minute_of last)
