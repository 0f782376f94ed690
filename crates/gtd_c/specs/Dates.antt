-- Dates and moments as numbers and texts.
use Rattle.std.specs.Prelude.{◌≤ℤ◌, ◌<ℤ◌, ℕ, ℤ}
use Rattle.gtd_core.specs.Limits.{first_horizon_day, horizons_end}
use Rattle.gtd_calendar.specs.Calendar.{IsCalendarYear, IsDate, day_number}

-- a day from 1901-01-01 up to 2700-01-01, which is not included
abbrev pub IsDay : ℤ → Type 0
IsDay day = (first_horizon_day ≤ℤ day) × (day <ℤ horizons_end)

-- there is such a date, and its day is one of these
abbrev pub IsDayOf : ℤ → ℕ → ℕ → Type 0
IsDayOf year month day = IsCalendarYear year × IsDate year month day × IsDay (day_number year month day)
