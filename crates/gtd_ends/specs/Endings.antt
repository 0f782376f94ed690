-- Which end the stretches of a basic domain have, where it is the same for all.
use Rattle.std.specs.Prelude.{ℕ, ◌+◌, ◌-◌, ◌*◌, ◌/◌, ◌%◌, ◌==◌, ◌&&◌, not, Bool, true, false, Option, Some, None}
use Rattle.std.specs.Prelude.{if◌then◌else◌, nat_lt}
use Rattle.gtd_core.specs.Ranges.{clock_seconds}
use Rattle.gtd_core.specs.declared.start.StartParts.{StartParts}
use Rattle.gtd_core.specs.declared.duration.DurationParts.{DurationParts}
use Rattle.gtd_ends.specs.declared.anchor.Anchor.{Anchor}
use Rattle.gtd_ends.specs.declared.anchor.Anchor.TheVariants.{Day, Place, PlaceBack, Weekdays, EveryDay, TheMonday, Beginning}
use Rattle.gtd_ends.specs.declared.end.End.{End}
use Rattle.gtd_ends.specs.declared.end.End.TheVariants.{Clock, Weekday, Date, WithWeekday, WithDate, WithFebruary}
use Rattle.gtd_ends.specs.Anchors.{anchor_of, has_clock}
use Rattle.gtd_ends.specs.Dates.{date_at, days_on, sure_length, years_until}

-- ---- what a start gives

-- The second of its day at which each stretch begins: that of a clock from the hour on, or 0 without a clock.
abbrev pub first_second : Option ℕ → Option ℕ → Option ℕ → Option ℕ
first_second (Some hour) (Some minute) (Some second) = Some (3600 * hour + 60 * minute + second)
first_second (Some hour) (Some minute) None = Some (3600 * hour + 60 * minute)
first_second (Some hour) None (Some second) = None
first_second (Some hour) None None = Some (3600 * hour)
first_second None (Some minute) second = None
first_second None None (Some second) = None
first_second None None None = Some 0

-- the weekday of bits of which one is set
abbrev pub one_weekday : ℕ → Option ℕ
one_weekday weekdays =
    if weekdays == 1 then Some 1 else (if weekdays == 2 then Some 2 else (if weekdays == 4 then Some 3
    else (if weekdays == 8 then Some 4 else (if weekdays == 16 then Some 5 else (if weekdays == 32 then Some 6
    else (if weekdays == 64 then Some 7 else None))))))

-- the weekday on which each stretch begins, if it is the same for all
abbrev pub weekday_from : Anchor → Option ℕ
weekday_from (Place place) = Some place.1
weekday_from (PlaceBack place) = Some place.1
weekday_from (Weekdays weekdays) = one_weekday weekdays
weekday_from TheMonday = Some 2
weekday_from other = None

-- the month and the day of the month on which each stretch begins, if they are the same for all
abbrev pub date_from : Anchor → Option ℕ → Option (ℕ × ℕ)
date_from (Day day) (Some month) = Some (month, day)
date_from Beginning (Some month) = Some (month, 1)
date_from Beginning None = Some (1, 1)
date_from anchor month = None

-- both
abbrev pub named_from : StartParts → Option ℕ × Option (ℕ × ℕ)
named_from start = (weekday_from (anchor_of start), date_from (anchor_of start) start.month)

-- ---- the end

-- A date is said only where it is the first such date.
abbrev pub if_first : ℕ × ℕ → ℕ → ℕ → ℕ → End → Option End
if_first start year month day end = if year == years_until start month day then Some end else None

-- with the day before a date
abbrev pub before_first : ℕ × ℕ → ℕ → ℕ → Option End
before_first start year month =
    if month == 3 then if_first start year 2 29 WithFebruary
    else (if month == 1 then (if year == 0 then None else if_first start (year - 1) 12 31 (WithDate (12, 31)))
    else if_first start year (month - 1) (sure_length (month - 1)) (WithDate (month - 1, sure_length (month - 1))))

abbrev pub before_date : ℕ × ℕ → ℕ × ℕ × ℕ → Option End
before_date start date =
    if date.2 == 1 then before_first start date.0 date.1
    else if_first start date.0 date.1 (date.2 - 1) (WithDate (date.1, date.2 - 1))

abbrev pub with_date : ℕ × ℕ → Option (ℕ × ℕ × ℕ) → Option End
with_date start None = None
with_date start (Some date) = if_first start date.0 date.1 date.2 (WithDate (date.1, date.2))

abbrev pub at_date : ℕ × ℕ → ℕ → Option (ℕ × ℕ × ℕ) → Option End
at_date start second None = None
at_date start second (Some date) = if_first start date.0 date.1 date.2 (Date (date.1, date.2, second))

-- so many days after a date: with the last of them, if they are whole, or at a second of the day after them
abbrev pub from_date : Bool → ℕ × ℕ → ℕ → ℕ → Option (ℕ × ℕ × ℕ) → Option End
from_date whole start days second None = None
from_date false start days second (Some date) = at_date start second (days_on 13 date.0 date.1 date.2 days)
from_date true start days second (Some date) =
    if days == 0 then before_date start date else with_date start (days_on 13 date.0 date.1 date.2 (days - 1))

abbrev pub date_end : Bool → Option (ℕ × ℕ) → ℕ → ℕ → ℕ → Option End
date_end whole None months days second = None
date_end whole (Some start) months days second =
    from_date whole start days second (date_at (start.0 - 1 + months) start.1)

-- the weekday so many days later
abbrev pub weekday_after : ℕ → ℕ → ℕ
weekday_after weekday days = (weekday + 6 + days) % 7 + 1

abbrev pub weekday_end : Bool → Option ℕ → ℕ → ℕ → Option End
weekday_end whole None days second = None
weekday_end true (Some weekday) days second =
    if nat_lt 7 days then None else Some (WithWeekday (weekday_after weekday (days - 1)))
weekday_end false (Some weekday) days second =
    if nat_lt 6 days then None else Some (Weekday (weekday_after weekday days, second))

abbrev pub or_else : Option End → Option End → Option End
or_else (Some end) other = Some end
or_else None other = other

-- A weekday is said before a date. A time of the same day and of the next is said without either, and so is each other that has
-- neither.
abbrev pub without_months : Bool → Option ℕ × Option (ℕ × ℕ) → ℕ → ℕ → Option End
without_months true named days second =
    or_else (weekday_end true named.0 days second) (date_end true named.1 0 days second)
without_months false named days second =
    if nat_lt days 2 then Some (Clock (days, second))
    else or_else (weekday_end false named.0 days second)
    (or_else (date_end false named.1 0 days second) (Some (Clock (days, second))))

abbrev pub end_after : Bool → Option ℕ × Option (ℕ × ℕ) → ℕ → ℕ → ℕ → Option End
end_after whole named months days second =
    if months == 0 then without_months whole named days second else date_end whole named.1 months days second

abbrev pub month_sum : DurationParts → ℕ
month_sum duration = 12 * duration.years + duration.months

abbrev pub day_sum : DurationParts → ℕ
day_sum duration = 7 * duration.weeks + duration.days

-- The end, by the second of its day at which a stretch begins. Days are whole without a clock.
abbrev pub end_from : StartParts → DurationParts → Option ℕ → Option End
end_from start duration None = None
end_from start duration (Some second) =
    end_after (not (has_clock start) && ((second + clock_seconds duration) % 86400 == 0)) (named_from start) (month_sum duration)
    (day_sum duration + (second + clock_seconds duration) / 86400) ((second + clock_seconds duration) % 86400)

abbrev pub is_empty : DurationParts → Bool
is_empty duration = month_sum duration + day_sum duration + clock_seconds duration == 0

unfoldable pub ending : StartParts → DurationParts → Option End
ending start duration =
    if is_empty duration then None else end_from start duration (first_second start.hour start.minute start.second)

-- ---- the usual duration of an end

-- Days, and seconds, from a second of a day to one of a day that comes so many days later.
abbrev pub between : ℕ → ℕ → ℕ → ℕ × ℕ × ℕ × ℕ
between first days second =
    if nat_lt second first then (0, 0, days - 1, second + 86400 - first) else (0, 0, days, second - first)

abbrev pub weekdays_between : Option ℕ → ℕ → ℕ
weekdays_between None weekday = 0
weekdays_between (Some from) weekday = (weekday + 7 - from) % 7

-- Months and days from one date to the next such date; a year from a date to itself.
abbrev pub months_between : ℕ → ℕ → ℕ × ℕ × ℕ × ℕ
months_between months days = if months + days == 0 then (1, 0, 0, 0) else (0, months, days, 0)

abbrev pub dates_between : Option (ℕ × ℕ) → ℕ × ℕ → ℕ × ℕ × ℕ × ℕ
dates_between None to = (0, 0, 0, 0)
dates_between (Some from) to =
    if nat_lt to.1 from.1
    then months_between ((to.0 + 11 - from.0) % 12) (sure_length ((to.0 + 10) % 12 + 1) + to.1 - from.1)
    else months_between ((to.0 + 12 - from.0) % 12) (to.1 - from.1)

-- the date after a day
abbrev pub next_date : ℕ × ℕ → ℕ × ℕ
next_date date =
    if (date.1 == sure_length date.0) && not (date.0 == 2) then (date.0 % 12 + 1, 1) else (date.0, date.1 + 1)

-- Years, months, days and seconds that lead to an end.
abbrev pub usual_to : Option ℕ × Option (ℕ × ℕ) → ℕ → End → ℕ × ℕ × ℕ × ℕ
usual_to named first (Clock end) = between first end.0 end.1
usual_to named first (Weekday end) = between first (weekdays_between named.0 end.0) end.1
usual_to named first (WithWeekday end) = (0, 0, weekdays_between named.0 end + 1, 0)
usual_to named first (Date end) = dates_between named.1 (end.0, end.1)
usual_to named first (WithDate end) = dates_between named.1 (next_date end)
usual_to named first WithFebruary = dates_between named.1 (3, 1)

abbrev pub second_or_none : Option ℕ → ℕ
second_or_none None = 0
second_or_none (Some second) = second

unfoldable pub usual : StartParts → End → ℕ × ℕ × ℕ × ℕ
usual start end = usual_to (named_from start) (second_or_none (first_second start.hour start.minute start.second)) end

-- The duration is written as these years, months, days and seconds: the seconds as hours, minutes and the rest.
abbrev pub is_written : DurationParts → ℕ × ℕ × ℕ × ℕ → Bool
is_written duration parts =
    (duration.years == parts.0) && ((duration.months == parts.1) && ((duration.weeks == 0) && ((duration.days == parts.2)
    && ((duration.hours == parts.3 / 3600) && ((duration.minutes == parts.3 / 60 % 60) && (duration.seconds == parts.3 % 60))))))

-- ---- one whole day

abbrev pub is_beginning : Anchor → Bool
is_beginning Beginning = true
is_beginning anchor = false

-- One whole day, whose start names it.
unfoldable pub is_all_day : StartParts → DurationParts → Bool
is_all_day start duration =
    not (has_clock start) && (not (is_beginning (anchor_of start)) && is_written duration (0, 0, 1, 0))
