-- Where a set of days begins.
use Rattle.std.specs.Prelude.{ℤ, pos, ◌+ℤ◌, ◌≤ℤ◌}
use Rattle.gtd_calendar.specs.Calendar.{first_day}
use Rattle.gtd_hours_holidays.specs.declared.known_years.KnownYears.{KnownYears}

-- the day is at least 366 days before the years, so no offset leads from them to a day before it
abbrev pub IsBegun : ℤ → KnownYears → Type 0
IsBegun first years = (first +ℤ pos 366) ≤ℤ first_day (pos years.first)
