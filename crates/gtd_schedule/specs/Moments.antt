-- The moments of a line, and what is kept of them while the line is written over.
use Rattle.std.specs.Prelude.{◌≡◌, ◌≤◌, ◌<◌, ◌+◌, ◌*◌, ◌%◌, ◌++◌, ℕ, ℤ, pos, ◌+ℤ◌, ◌-ℤ◌, ◌*ℤ◌, List, codes}
use Rattle.gtd_core.specs.Seconds.{day_of_second}
use Rattle.gtd_calendar.specs.Calendar.{IsCalendarDay, month_length}
use Rattle.gtd_calendar.specs.Clock.{second_of_day}
use Rattle.gtd_calendar.specs.ComputedDates.{year_of, month_of, day_of_month}
use Rattle.gtd_calendar.specs.Stamp.{stamp_text}
use Rattle.gtd_schedule.specs.declared.moment.Month.{Month}
use Rattle.gtd_schedule.specs.declared.moment.Shown.{Shown}
use Rattle.gtd_schedule.specs.declared.line.ShownSpan.{ShownSpan}

-- the first second of the month in which a day, by its number, is this day of the month
unfoldable pub first_second : ℤ → ℕ → ℤ
first_second day place = pos 86400 *ℤ ((day +ℤ pos 1) -ℤ pos place)

-- the month of the day: its first second, and seconds of days that it has
pub record IsMonthOf (day : ℤ) (month : Month) : Type 0 where
  pub begins : month.begins ≡ first_second day (day_of_month day)
  pub reached : month.seconds ≤ 86400 * month_length (year_of day) (month_of day)

-- a day, by its number, is this day of a month, and begins within the month's seconds
pub record IsDayOfMonth (month : Month) (day : ℤ) (place : ℕ) : Type 0 where
  pub begins : month.begins ≡ first_second day place
  pub some : 1 ≤ place
  pub within : 86400 * place < month.seconds + 86400

-- the month of some day of the calendar
abbrev pub IsSomeMonth : Month → Type 0
IsSomeMonth month = (n : ℤ) × IsCalendarDay n × IsMonthOf n month

-- it is kept of this second: its month, and its places in its day and in its hour
pub record IsKeptOf (second : ℤ) (shown : Shown) : Type 0 where
  pub day : IsCalendarDay (day_of_second second)
  pub month : IsMonthOf (day_of_second second) shown.month
  pub clock : shown.clock ≡ second_of_day second
  pub past_hour : shown.past_hour ≡ second_of_day second % 3600

-- a text begins with a moment, of which it is kept
pub record IsShown (shown : Shown) (text : List ℕ) : Type 0 where
  pub second : ℤ
  pub rest : List ℕ
  pub kept : IsKeptOf second shown
  pub is : text ≡ stamp_text second ++ rest

-- the bytes of a line after its head are two moments, of which it is kept
pub record AreMoments (shown : ShownSpan) (bytes : List ℕ) : Type 0 where
  pub from : ℤ
  pub until : ℤ
  pub from_kept : IsKeptOf from shown.from
  pub until_kept : IsKeptOf until shown.until
  pub is : bytes ≡ stamp_text from ++ codes "," ++ stamp_text until ++ codes "\n"
