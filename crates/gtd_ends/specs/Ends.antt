-- When the stretches of a basic domain end.
use Rattle.std.specs.Prelude.{◌≡◌, ◌<◌, ◌≤◌, ◌^◌, ◌+◌, ◌*◌, ◌-◌, ℕ, ℤ, pos, ◌+ℤ◌, ◌*ℤ◌, ⊤}
use Rattle.gtd_core.specs.Seconds.{day_of_second}
use Rattle.gtd_core.specs.declared.start.StartParts.{StartParts}
use Rattle.gtd_core.specs.declared.duration.DurationParts.{DurationParts}
use Rattle.gtd_calendar.specs.Calendar.{IsDateOf, weekday_of}
use Rattle.gtd_calendar.specs.Clock.{IsStop}
use Rattle.gtd_recur.specs.Membership.{Matches}
use Rattle.gtd_ends.specs.declared.end.End.{End}
use Rattle.gtd_ends.specs.declared.end.End.TheVariants.{Clock, Weekday, Date, WithWeekday, WithDate, WithFebruary}
use Rattle.gtd_ends.specs.Dates.{years_until}

-- The numbers of an end: seconds of a day, weekdays, months and days of the month are in their ranges.
abbrev pub IsEnd : End → Type 0
IsEnd (Clock end) = (end.0 < 2 ^ 64) × (end.1 < 86400)
IsEnd (Weekday end) = (1 ≤ end.0) × (end.0 ≤ 7) × (end.1 < 86400)
IsEnd (WithWeekday end) = (1 ≤ end) × (end ≤ 7)
IsEnd (Date end) = (1 ≤ end.0) × (end.0 ≤ 12) × (end.1 < 100) × (end.2 < 86400)
IsEnd (WithDate end) = (1 ≤ end.0) × (end.0 ≤ 12) × (end.1 < 100)
IsEnd WithFebruary = ⊤

-- the second of a day
abbrev pub IsSecondOf : ℤ → ℤ → ℕ → Type 0
IsSecondOf e day second = e ≡ pos 86400 *ℤ day +ℤ pos second

-- The day is the first of this weekday from another one on.
abbrev pub IsNextWeekday : ℤ → ℤ → ℕ → Type 0
IsNextWeekday from day weekday = (days : ℕ) × (days < 7) × (day ≡ from +ℤ pos days) × (weekday_of day ≡ weekday)

-- The day is the first of this month and day from another one on: in the year of that day, or, where it has this date before that
-- day, in the next year.
abbrev pub IsNextDate : ℤ → ℤ → ℕ → ℕ → ℕ → ℕ → Type 0
IsNextDate from day month number shown_month shown_day = (year : ℤ) × (from_month : ℕ) × (from_day : ℕ)
    × IsDateOf from year from_month from_day
    × IsDateOf day (year +ℤ pos (years_until (from_month, from_day) shown_month shown_day)) month number

-- A stretch that begins at b ends at e, as the end says: at a second of a day that comes so many days later, or is the next such
-- weekday or date; or when the next such weekday or date, or February, is over.
abbrev pub EndsAt : End → ℤ → ℤ → Type 0
EndsAt (Clock end) b e = IsSecondOf e (day_of_second b +ℤ pos end.0) end.1
EndsAt (Weekday end) b e = (day : ℤ) × IsNextWeekday (day_of_second b) day end.0 × IsSecondOf e day end.1
EndsAt (WithWeekday end) b e = (day : ℤ) × IsNextWeekday (day_of_second b) day end × IsSecondOf e (day +ℤ pos 1) 0
EndsAt (Date end) b e = (day : ℤ) × IsNextDate (day_of_second b) day end.0 end.1 end.0 end.1 × IsSecondOf e day end.2
EndsAt (WithDate end) b e = (day : ℤ) × IsNextDate (day_of_second b) day end.0 end.1 end.0 end.1 × IsSecondOf e (day +ℤ pos 1) 0
EndsAt WithFebruary b e = (day : ℤ) × IsNextDate (day_of_second b) day 3 1 2 29 × IsSecondOf e day 0

-- From each second that the start matches, the stretch of the duration ends so.
abbrev pub AllEndAt : StartParts → DurationParts → End → Type 0
AllEndAt start duration end = (b e : ℤ) → Matches start b → IsStop duration b e → EndsAt end b e

-- From each second that the start matches, the stretch is all of its day.
abbrev pub AllLastTheDay : StartParts → DurationParts → Type 0
AllLastTheDay start duration =
    (b e : ℤ) → Matches start b → IsStop duration b e
    → IsSecondOf b (day_of_second b) 0 × IsSecondOf e (day_of_second b +ℤ pos 1) 0
