-- Days that come in each year.
use Rattle.std.specs.Prelude.{ℕ, ◌<◌, ℤ, pos, ◌-ℤ◌}
use Rattle.gtd_calendar.specs.Calendar.{IsDateOf}

-- day n is this day of the month in some year
abbrev pub IsMonthDayOf : ℕ → ℕ → ℤ → Type 0
IsMonthDayOf month day n = (y : ℤ) × IsDateOf n y month day

-- day n is one of so many days from this day of the month on, in some year
abbrev pub IsOfDays : ℕ → ℕ → ℕ → ℤ → Type 0
IsOfDays month day days n = (k : ℕ) × (k < days) × IsMonthDayOf month day (n -ℤ pos k)
