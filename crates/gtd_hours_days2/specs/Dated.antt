-- Ranges of days of years.
use Rattle.std.specs.Prelude.{ℕ, ℤ, pos, ◌+ℤ◌, ◌≤ℤ◌, ◌<ℤ◌}
use Rattle.gtd_calendar.specs.Calendar.{day_number}
use Rattle.gtd_hours.specs.declared.hours.YearDate.{YearDate}
use Rattle.gtd_hours2.specs.Days.{day_in}
use Rattle.gtd_hours2.specs.declared.values.YearlyDay.{YearlyDay}
use Rattle.gtd_hours_days2.specs.Ends.{IsDayOf}

-- the day of a date
abbrev pub date_day : YearDate → ℤ
date_day date = day_number (pos date.year) date.month date.day

-- from a day to the same or a later one, at most 36,600 days with both
abbrev pub IsShortRange : ℤ → ℤ → Type 0
IsShortRange first last = (first ≤ℤ last) × (last <ℤ (first +ℤ pos 36600))

-- a range from a day of a year to one of another
abbrev pub IsDatedPart : ℕ → YearlyDay → ℕ → YearlyDay → Type 0
IsDatedPart year first final last =
    IsDayOf year first × IsDayOf final last × IsShortRange (day_in first (pos year)) (day_in last (pos final))
