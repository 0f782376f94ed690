-- Dates of each year, and years.
use Rattle.std.specs.Prelude.{ℕ, ◌+◌, ◌==◌, nat_lt, if◌then◌else◌, ℤ, pos, ◌≤ℤ◌}
use Rattle.std.specs.Int.{IsInRange}
use Rattle.gtd_calendar.specs.Calendar.{month_length}
use Rattle.gtd_hours_cells.specs.declared.cell.Date.{Date}

-- how many days a month has in leap years, of which 2024 is one
abbrev pub longest : ℕ → ℕ
longest month = month_length (pos 2024) month

-- some year has this date
abbrev pub IsYearlyDate : Date → Type 0
IsYearlyDate date = IsInRange 1 12 date.month × IsInRange 1 (longest date.month) date.day

-- the date after another in leap years: the next day of the month, or the first one of the next month
abbrev pub next_date : Date → Date
next_date date =
    if nat_lt date.day (longest date.month) then record { month = date.month; day = date.day + 1 }
    else if date.month == 12 then record { month = 1; day = 1 }
    else record { month = date.month + 1; day = 1 }

-- a year of at most four digits
abbrev pub IsShortYear : ℤ → Type 0
IsShortYear year = (pos 0 ≤ℤ year) × (year ≤ℤ pos 9999)
