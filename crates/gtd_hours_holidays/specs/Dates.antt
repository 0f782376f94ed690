-- Dates as a table has them.
use Rattle.std.specs.Prelude.{ℕ, List, ℤ, pos}
use Rattle.gtd_calendar.specs.Calendar.{IsCalendarYear, IsDateOf}
use Rattle.gtd_calendar.specs.Stamp.{IsYmdText}

-- the text is that of day n, YYYY-MM-DD, in a year from 1800 to 2799
pub record IsDayText (text : List ℕ) (n : ℤ) : Type 0 where
  pub year : ℕ
  pub month : ℕ
  pub day : ℕ
  pub shown : IsYmdText text year month day
  pub year_in : IsCalendarYear (pos year)
  pub date : IsDateOf n (pos year) month day
