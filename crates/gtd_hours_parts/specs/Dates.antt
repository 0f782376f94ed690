-- Dates, and which year the last date of a range has.
use Rattle.std.specs.Prelude.{ℕ, ◌+◌, nat_lt, if◌then◌else◌}
use Rattle.gtd_hours.specs.Opening.{date_key}
use Rattle.gtd_hours.specs.Ranges.{IsDatedRange, IsMonthDay, IsYearDate}
use Rattle.gtd_hours_parts.specs.declared.digits.Digits.{Digits}
use Rattle.gtd_hours_parts.specs.Numbers.{IsDayNumber}

-- a month and a day of it, at least in leap years
abbrev pub IsWrittenDay : ℕ → Digits → Type 0
IsWrittenDay month day = IsDayNumber day × IsMonthDay month day.value

-- a day of a month that the year has
abbrev pub IsDayOfYear : ℕ → ℕ → Digits → Type 0
IsDayOfYear year month day = IsDayNumber day × IsYearDate year month day.value

-- The year of a last date that is written without one: that of the first date, or the next one, if in the same year the last
-- date would come before the first.
abbrev pub last_year : ℕ → ℕ → ℕ → ℕ → ℕ → ℕ
last_year first_year first_month first_day month day =
    if nat_lt (date_key month day) (date_key first_month first_day) then first_year + 1 else first_year

-- a range that begins with a date and ends on a day: not before it, and with both at most 36,600 days long
abbrev pub EndsOn : ℕ → ℕ → ℕ → ℕ → ℕ → Digits → Type 0
EndsOn first_year first_month first_day year month day =
    IsDayOfYear year month day × IsDatedRange first_year first_month first_day year month day.value
