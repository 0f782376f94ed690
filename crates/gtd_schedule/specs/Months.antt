-- A date that stands in a text, and the month of it that is kept.
use Rattle.std.specs.Prelude.{◌≡◌, ◌++◌, ℕ, ℤ, List}
use Rattle.gtd_calendar.specs.Calendar.{IsCalendarDay}
use Rattle.gtd_calendar.specs.Stamp.{date_text}
use Rattle.gtd_schedule.specs.Moments.{IsMonthOf}
use Rattle.gtd_schedule.specs.declared.moment.Month.{Month}

-- the text begins with a day of the calendar, of which the month is kept
pub record IsDated (month : Month) (text : List ℕ) : Type 0 where
  pub day : ℤ
  pub rest : List ℕ
  pub in_calendar : IsCalendarDay day
  pub of : IsMonthOf day month
  pub is : text ≡ date_text day ++ rest
