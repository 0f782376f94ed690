-- When a start begins, computed: its fields against the date, the week and the clock of a second, level by level. A law
-- of this crate says that it begins exactly at the seconds that it matches.
use Rattle.std.specs.Prelude.{ℕ, ◌-◌, ◌/◌, ◌%◌, ◌^◌, Bool, true, false, ◌&&◌, ◌||◌, ◌==◌, if◌then◌else◌, Option, Some, None}
use Rattle.std.specs.Prelude.{is_some, ℤ, pos}
use Rattle.std.specs.Ordering.{int_eq}
use Rattle.gtd_core.specs.declared.start.StartParts.{StartParts}
use Rattle.gtd_calendar.specs.declared.day.DayFields.{DayFields}
use Rattle.gtd_calendar.specs.ComputedDates.{year_of, month_of}
use Rattle.gtd_calendar.specs.ComputedFields.{day_fields}
use Rattle.gtd_core.specs.Seconds.{day_of_second}
use Rattle.gtd_calendar.specs.Clock.{second_of_day}
pub use Rattle.gtd_recur.specs.Membership.{gives_day, gives_clock}

-- a field that is given has this value
abbrev pub agrees : Option ℕ → ℕ → Bool
agrees (Some x) v = x == v
agrees None v = true

-- a level of one field: without it the level is free if a finer one is given, and otherwise at its least value
abbrev pub agrees_or_least : Option ℕ → Bool → ℕ → ℕ → Bool
agrees_or_least (Some x) finer least v = x == v
agrees_or_least None finer least v = finer || (least == v)

-- a year that is given is this one
abbrev pub year_agrees_with : Option ℕ → ℤ → Bool
year_agrees_with (Some y) v = int_eq (pos y) v
year_agrees_with None v = true

-- the year: that of the week if a week is given, and otherwise that of the date
abbrev pub year_agrees : StartParts → DayFields → Bool
year_agrees p f = year_agrees_with p.year (if is_some p.week then f.week_year else f.year)

-- a place in the month, if it is given as a number and a weekday, is this one
abbrev pub place_agrees : Option (ℕ × ℕ) → ℕ → ℕ → Bool
place_agrees (Some x) n weekday = (x.0 == n) && (x.1 == weekday)
place_agrees None n weekday = true

-- the weekday is one of those that are given, of which bit k - 1 stands for the weekday k
abbrev pub is_weekday : StartParts → ℕ → Bool
is_weekday p weekday = (p.weekdays == 0) || (p.weekdays / 2 ^ (weekday - 1) % 2 == 1)

abbrev pub weekday_agrees : StartParts → DayFields → Bool
weekday_agrees p f = is_weekday p f.weekday

-- the day's level without a field: free if the clock is given, and otherwise the Monday of a given week, or the first
-- of the month
abbrev pub least_day : StartParts → DayFields → Bool
least_day p f = gives_day p || (gives_clock p || (if is_some p.week then f.weekday == 2 else f.day == 1))

-- the levels down to the day hold on a day with these fields
abbrev pub begins_on : StartParts → DayFields → Bool
begins_on p f =
    year_agrees p f
    && (agrees_or_least p.month (is_some p.week || (gives_day p || gives_clock p)) 1 f.month
    && (agrees p.week f.week
    && (agrees p.day f.day
    && (place_agrees p.nth f.nth f.weekday
    && (place_agrees p.nth_back f.nth_back f.weekday
    && (weekday_agrees p f && least_day p f))))))

-- the levels of the clock hold at this second of a day
abbrev pub begins_at : StartParts → ℕ → Bool
begins_at p k =
    agrees_or_least p.hour (is_some p.minute || is_some p.second) 0 (k / 3600)
    && (agrees_or_least p.minute (is_some p.second) 0 (k / 60 % 60)
    && agrees_or_least p.second false 0 (k % 60))

-- the start matches the second: a stretch begins at it
unfoldable pub begins : StartParts → ℤ → Bool
begins p s = begins_on p (day_fields (day_of_second s)) && begins_at p (second_of_day s)

-- the day is not excluded by a given month, nor by a year that is given without a week
abbrev pub month_and_year_fit : StartParts → ℤ → Bool
month_and_year_fit p n = agrees p.month (month_of n) && (is_some p.week || year_agrees_with p.year (year_of n))
