-- Which values groups have.
use Rattle.std.specs.Prelude.{ℕ, ◌≤◌, pos}
use Rattle.gtd_calendar.specs.Calendar.{IsDate}

-- a date that each year has, as 2001 is no leap year, and at most 366 days from it on
abbrev pub IsGroup : ℕ → ℕ → ℕ → Type 0
IsGroup month day days = IsDate (pos 2001) month day × (1 ≤ days) × (days ≤ 366)
