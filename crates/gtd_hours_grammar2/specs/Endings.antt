-- Each beginning can go on: from each state, classes that lead to the end of a text. So the first class that leads nowhere is
-- where the longest beginning of some text ends.
use Rattle.std.specs.Prelude.{◌≡◌, Option, Some, None, Ok, Err, List, [], ◌∷◌, ◌++◌}
use Rattle.gtd_hours_grammar2.specs.declared.class.Class.{Class}
use Rattle.gtd_hours_grammar2.specs.declared.class.Class.TheVariants as class
use Rattle.gtd_hours_grammar2.specs.declared.state.State.{State}
use Rattle.gtd_hours_grammar2.specs.declared.state.State.TheVariants as state
use Rattle.gtd_hours_grammar2.specs.declared.state.AlwaysState.{AlwaysState}
use Rattle.gtd_hours_grammar2.specs.declared.state.AlwaysState.TheVariants as always
use Rattle.gtd_hours_grammar2.specs.declared.state.YearState.{YearState}
use Rattle.gtd_hours_grammar2.specs.declared.state.YearState.TheVariants as year
use Rattle.gtd_hours_grammar2.specs.declared.state.MonthState.{MonthState}
use Rattle.gtd_hours_grammar2.specs.declared.state.MonthState.TheVariants as month
use Rattle.gtd_hours_grammar2.specs.declared.state.DateState.{DateState}
use Rattle.gtd_hours_grammar2.specs.declared.state.DateState.TheVariants as date
use Rattle.gtd_hours_grammar2.specs.declared.state.EasterState.{EasterState}
use Rattle.gtd_hours_grammar2.specs.declared.state.EasterState.TheVariants as easter
use Rattle.gtd_hours_grammar2.specs.declared.state.PlaceState.{PlaceState}
use Rattle.gtd_hours_grammar2.specs.declared.state.PlaceState.TheVariants as place
use Rattle.gtd_hours_grammar2.specs.declared.state.LastState.{LastState}
use Rattle.gtd_hours_grammar2.specs.declared.state.LastState.TheVariants as last
use Rattle.gtd_hours_grammar2.specs.declared.state.WeekState.{WeekState}
use Rattle.gtd_hours_grammar2.specs.declared.state.WeekState.TheVariants as week
use Rattle.gtd_hours_grammar2.specs.declared.state.HolidayState.{HolidayState}
use Rattle.gtd_hours_grammar2.specs.declared.state.HolidayState.TheVariants as holiday
use Rattle.gtd_hours_grammar2.specs.declared.state.WeekdayState.{WeekdayState}
use Rattle.gtd_hours_grammar2.specs.declared.state.WeekdayState.TheVariants as weekday
use Rattle.gtd_hours_grammar2.specs.declared.state.TimeState.{TimeState}
use Rattle.gtd_hours_grammar2.specs.declared.state.TimeState.TheVariants as time
use Rattle.gtd_hours_grammar2.specs.declared.step.Wrong.{Wrong}
use Rattle.gtd_hours_grammar2.specs.Steps.{Next}
use Rattle.gtd_hours_grammar2.specs.Machine.{next}

-- where classes lead from a state
abbrev pub step_to : (State → Option State) → Next → Option State
step_to f (Ok step) = f step.to
step_to f (Err w) = None

abbrev pub leads : List Class → State → Option State
leads [] s = Some s
leads (c ∷ cs) s = step_to (leads cs) (next s c)

-- a text by its classes: the last one is its end
abbrev pub IsText : List Class → Type 0
IsText cs = leads cs state.Front ≡ Some state.Done

-- ---- what completes a text from a state on

abbrev pub close_always : AlwaysState → List Class
close_always always.Twenty = class.Slash ∷ class.Year ∷ class.End ∷ []
close_always always.Slash = class.Year ∷ class.End ∷ []
close_always always.End = class.End ∷ []

abbrev pub close_year : YearState → List Class
close_year year.First = class.End ∷ []
close_year year.Listed = class.End ∷ []
close_year year.Dash = class.Year ∷ class.End ∷ []
close_year year.Range = class.End ∷ []
close_year year.Slash = class.Year ∷ class.End ∷ []
close_year year.End = class.End ∷ []

abbrev pub close_month : MonthState → List Class
close_month month.OfYear = class.End ∷ []
close_month month.OfYearDash = class.Month ∷ class.End ∷ []
close_month month.LastYear = class.Month ∷ class.End ∷ []
close_month month.Month = class.End ∷ []
close_month month.Dash = class.Month ∷ class.End ∷ []
close_month month.End = class.End ∷ []

abbrev pub close_date : DateState → List Class
close_date date.Year = class.Easter ∷ class.End ∷ []
close_date date.Month = class.Year ∷ class.End ∷ []
close_date date.MonthDash = class.Year ∷ class.Month ∷ class.End ∷ []
close_date date.Day = class.End ∷ []
close_date date.ListedDay = class.End ∷ []
close_date date.ListedTwenty = class.End ∷ []

abbrev pub close_easter : EasterState → List Class
close_easter easter.Easter = class.End ∷ []
close_easter easter.Plus = class.Year ∷ class.Day ∷ class.End ∷ []
close_easter easter.Dash = class.Easter ∷ class.End ∷ []
close_easter easter.Number = class.Day ∷ class.End ∷ []
close_easter easter.Offset = class.End ∷ []

-- a range, where month and weekday have no meaning apart
abbrev pub close_place : PlaceState → List Class
close_place place.Weekday = class.Open ∷ class.Year ∷ class.Close ∷ class.Dash ∷ class.Easter ∷ class.End ∷ []
close_place place.Open = class.Year ∷ class.Close ∷ class.Dash ∷ class.Easter ∷ class.End ∷ []
close_place place.Back = class.Year ∷ class.Close ∷ class.Dash ∷ class.Easter ∷ class.End ∷ []
close_place place.Number = class.Close ∷ class.Dash ∷ class.Easter ∷ class.End ∷ []
close_place place.NumberBack = class.Close ∷ class.Dash ∷ class.Easter ∷ class.End ∷ []
close_place place.Close = class.Dash ∷ class.Easter ∷ class.End ∷ []
close_place place.Plus = class.Year ∷ class.Day ∷ class.Dash ∷ class.Easter ∷ class.End ∷ []
close_place place.Dash = class.Easter ∷ class.End ∷ []
close_place place.Days = class.Day ∷ class.Dash ∷ class.Easter ∷ class.End ∷ []
close_place place.Offset = class.Dash ∷ class.Easter ∷ class.End ∷ []

abbrev pub close_last : LastState → List Class
close_last last.DateDash = class.Easter ∷ class.End ∷ []
close_last last.OffsetDash = class.Easter ∷ class.End ∷ []
close_last last.Year = class.Easter ∷ class.End ∷ []
close_last last.Month = class.Year ∷ class.End ∷ []
close_last last.Day = class.End ∷ []
close_last last.Weekday = class.Open ∷ class.Year ∷ class.Close ∷ class.End ∷ []
close_last last.Open = class.Year ∷ class.Close ∷ class.End ∷ []
close_last last.Back = class.Year ∷ class.Close ∷ class.End ∷ []
close_last last.Number = class.Close ∷ class.End ∷ []
close_last last.End = class.End ∷ []
close_last last.Sign = class.Year ∷ class.Day ∷ class.End ∷ []
close_last last.Days = class.Day ∷ class.End ∷ []

abbrev pub close_week : WeekState → List Class
close_week week.Front = class.Year ∷ class.End ∷ []
close_week week.Week = class.End ∷ []
close_week week.Dash = class.Year ∷ class.End ∷ []
close_week week.Range = class.End ∷ []
close_week week.Slash = class.Year ∷ class.End ∷ []
close_week week.End = class.End ∷ []

abbrev pub close_holiday : HolidayState → List Class
close_holiday holiday.Holiday = class.End ∷ []
close_holiday holiday.Sign = class.Year ∷ class.Day ∷ class.End ∷ []
close_holiday holiday.Days = class.Day ∷ class.End ∷ []
close_holiday holiday.End = class.End ∷ []

abbrev pub close_weekday : WeekdayState → List Class
close_weekday weekday.Weekday = class.End ∷ []
close_weekday weekday.Dash = class.Weekday ∷ class.End ∷ []
close_weekday weekday.Range = class.End ∷ []
close_weekday weekday.Open = class.Year ∷ class.Close ∷ class.End ∷ []
close_weekday weekday.NumberDash = class.Year ∷ class.Close ∷ class.End ∷ []
close_weekday weekday.Number = class.Close ∷ class.End ∷ []
close_weekday weekday.NumberEnd = class.Close ∷ class.End ∷ []
close_weekday weekday.Close = class.End ∷ []
close_weekday weekday.Sign = class.Year ∷ class.Day ∷ class.End ∷ []
close_weekday weekday.Days = class.Day ∷ class.End ∷ []
close_weekday weekday.Offset = class.End ∷ []

abbrev pub close_time : TimeState → List Class
close_time time.First = class.End ∷ []
close_time time.Paren = class.Event ∷ class.Dash ∷ class.Time ∷ class.Unparen ∷ class.End ∷ []
close_time time.Event = class.Dash ∷ class.Time ∷ class.Unparen ∷ class.End ∷ []
close_time time.Sign = class.Time ∷ class.Unparen ∷ class.End ∷ []
close_time time.Offset = class.Unparen ∷ class.End ∷ []
close_time time.Dash = class.Time ∷ class.End ∷ []
close_time time.LastParen = class.Event ∷ class.Dash ∷ class.Time ∷ class.Unparen ∷ class.End ∷ []
close_time time.LastEvent = class.Dash ∷ class.Time ∷ class.Unparen ∷ class.End ∷ []
close_time time.LastSign = class.Time ∷ class.Unparen ∷ class.End ∷ []
close_time time.LastOffset = class.Unparen ∷ class.End ∷ []
close_time time.Range = class.End ∷ []
close_time time.Slash = class.Year ∷ class.End ∷ []
close_time time.End = class.End ∷ []

abbrev pub close : State → List Class
close state.Front = class.Year ∷ class.End ∷ []
close state.Semicolon = class.Year ∷ class.End ∷ []
close state.Bars = class.Year ∷ class.End ∷ []
close (state.After st) = class.End ∷ []
close (state.Comma st) = class.Word ∷ class.End ∷ []
close state.DaysColon = class.Word ∷ class.End ∷ []
close state.Done = []
close (state.Always s) = close_always s
close (state.Year s) = close_year s
close (state.Month s) = close_month s
close (state.Date s) = close_date s
close (state.Easter s) = close_easter s
close (state.Place s flag) = close_place s
close (state.Last s) = close_last s
close (state.Week s) = close_week s
close (state.Holiday s flag) = close_holiday s
close (state.Weekday s flag) = close_weekday s
close (state.Time s) = close_time s

-- no fault before the last class, and one there
pub record IsFirstFault (before : List Class) (c : Class) (w : Wrong) : Type 0 where
  pub s : State
  pub goes : leads before state.Front ≡ Some s
  pub stops : next s c ≡ Err w

-- what is before it can go on, and with it nothing can
pub record IsLongest (before : List Class) (c : Class) : Type 0 where
  pub rest : List Class
  pub can : IsText (before ++ rest)
  pub cannot : (cs : List Class) → IsText (before ++ c ∷ cs) → ⊥
