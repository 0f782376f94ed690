-- How a text of opening hours goes on: after each beginning, which tokens may come next. This is the whole grammar, loose forms
-- included. Each state says after which tokens the reading is; each line, which class of tokens leads on. A step may cut: the
-- tokens since the last cut are one part of the hours.
use Rattle.std.specs.Prelude.{ℕ, Bool, true, false, nat_lt, ◌==◌, if◌then◌else◌, Option, Some, None, Ok, Err, List, [], ◌∷◌}
use Rattle.std.specs.List.{filter}
use Rattle.gtd_hours_grammar2.specs.declared.class.Class.{Class}
use Rattle.gtd_hours_grammar2.specs.declared.class.Class.TheVariants as class
use Rattle.gtd_hours_grammar2.specs.declared.state.Stage.{Stage}
use Rattle.gtd_hours_grammar2.specs.declared.state.Stage.TheVariants as stage
use Rattle.gtd_hours_grammar2.specs.declared.state.State.{State}
use Rattle.gtd_hours_grammar2.specs.declared.state.State.TheVariants as state
use Rattle.gtd_hours_grammar2.specs.declared.state.AlwaysState.{AlwaysState}
use Rattle.gtd_hours_grammar2.specs.declared.state.AlwaysState.TheVariants as always
use Rattle.gtd_hours_grammar2.specs.declared.state.YearState.{YearState}
use Rattle.gtd_hours_grammar2.specs.declared.state.YearState.TheVariants as year
use Rattle.gtd_hours_grammar2.specs.declared.state.MonthState.{MonthState}
use Rattle.gtd_hours_grammar2.specs.declared.state.MonthState.TheVariants as month
use Rattle.gtd_hours_grammar2.specs.declared.state.DateState.{DateState}
use Rattle.gtd_hours_grammar2.specs.declared.state.DateState.TheVariants as date
use Rattle.gtd_hours_grammar2.specs.declared.state.EasterState.{EasterState}
use Rattle.gtd_hours_grammar2.specs.declared.state.EasterState.TheVariants as easter
use Rattle.gtd_hours_grammar2.specs.declared.state.PlaceState.{PlaceState}
use Rattle.gtd_hours_grammar2.specs.declared.state.PlaceState.TheVariants as place
use Rattle.gtd_hours_grammar2.specs.declared.state.LastState.{LastState}
use Rattle.gtd_hours_grammar2.specs.declared.state.LastState.TheVariants as last
use Rattle.gtd_hours_grammar2.specs.declared.state.WeekState.{WeekState}
use Rattle.gtd_hours_grammar2.specs.declared.state.WeekState.TheVariants as week
use Rattle.gtd_hours_grammar2.specs.declared.state.HolidayState.{HolidayState}
use Rattle.gtd_hours_grammar2.specs.declared.state.HolidayState.TheVariants as holiday
use Rattle.gtd_hours_grammar2.specs.declared.state.WeekdayState.{WeekdayState}
use Rattle.gtd_hours_grammar2.specs.declared.state.WeekdayState.TheVariants as weekday
use Rattle.gtd_hours_grammar2.specs.declared.state.TimeState.{TimeState}
use Rattle.gtd_hours_grammar2.specs.declared.state.TimeState.TheVariants as time
use Rattle.gtd_hours_grammar2.specs.declared.step.Cut.{Cut}
use Rattle.gtd_hours_grammar2.specs.declared.step.Cut.TheVariants as cut
use Rattle.gtd_hours_grammar2.specs.declared.step.Wrong.TheVariants as wrong
use Rattle.gtd_hours_grammar2.specs.Steps.{Next, push, skip, mark, dropped, missing, unexpected, with_cut, when}
use Rattle.gtd_hours_grammar2.specs.Steps.{code, is_number, on, numbers, nothing, only, number, number_or_dash, sign, offset}

-- ---- from part to part

-- the parts of a rule come in this order
abbrev pub order : Stage → ℕ
order stage.Front = 0
order stage.Years = 1
order stage.Months = 2
order stage.Dates = 2
order stage.Weeks = 3
order stage.Colon = 4
order stage.Holidays = 5
order stage.Days = 5
order stage.Led = 5
order stage.Mixed = 5
order stage.Times = 6
order stage.Always = 6
order stage.Word = 7
order stage.Comment = 8

-- a token leads on if the rule has not come so far
abbrev pub until : Stage → ℕ → Next → Next
until st n x = when (nat_lt (order st) n) x

-- holidays directly after weekdays are read in two ways
abbrev pub next_holiday : Stage → State → Next
next_holiday stage.Days s = Err wrong.Ambiguous
next_holiday stage.Led s = Err wrong.Ambiguous
next_holiday stage.Mixed s = Err wrong.Ambiguous
next_holiday st s = until st 5 (push s)

-- weekdays directly after holidays: both must hold
abbrev pub next_weekday : Stage → Next
next_weekday stage.Holidays = with_cut cut.Leads (push (state.Weekday weekday.Weekday true))
next_weekday stage.Mixed = Err wrong.Ambiguous
next_weekday st = until st 5 (push (state.Weekday weekday.Weekday false))

-- a year after a list of years belongs to a date
abbrev pub dated : Stage → Next
dated stage.Years = push (state.Date date.Year)
dated st = unexpected

-- a later part of the rule begins
abbrev pub later : Stage → Class → Next
later st class.Year = dated st
later st class.Month = until st 2 (push (state.Month month.Month))
later st class.Easter = until st 2 (push (state.Easter easter.Easter))
later st class.Week = until st 3 (skip (state.Week week.Front))
later st class.PublicHoliday = next_holiday st (state.Holiday holiday.Holiday false)
later st class.SchoolHoliday = next_holiday st (state.Holiday holiday.End false)
later st class.Weekday = next_weekday st
later st class.Time = until st 6 (push (state.Time time.First))
later st class.Event = until st 6 (push (state.Time time.First))
later st class.Paren = until st 6 (push (state.Time time.Paren))
later st class.Word = until st 7 (mark (state.After stage.Word))
later st class.Comment = until st 8 (mark (state.After stage.Comment))
later st c = unexpected

-- a rule begins
abbrev pub front : Class → Next
front class.Year = push (state.Year year.First)
front class.Twenty = push (state.Always always.Twenty)
front c = later stage.Front c

-- a colon comes after years, months and weeks; loosely also after weekdays and holidays
abbrev pub colon : Stage → Next
colon stage.Holidays = dropped state.DaysColon
colon stage.Days = dropped state.DaysColon
colon stage.Led = dropped state.DaysColon
colon stage.Mixed = dropped state.DaysColon
colon stage.Front = unexpected
colon st = until st 4 (skip (state.After stage.Colon))

-- after a part of a rule, where a text may end
abbrev pub after : Stage → Class → Next
after st class.Semicolon = skip state.Semicolon
after st class.Bars = skip state.Bars
after st class.Comma = skip (state.Comma st)
after st class.End = skip state.Done
after st class.Colon = colon st
after st c = later st c

-- a part is complete
abbrev pub done : Cut → Stage → Class → Next
done k st c = with_cut k (after st c)

-- the sign of an offset, or the part is complete
abbrev pub sign_or_done : State → Cut → Stage → Class → Next
sign_or_done s k st = on class.Plus (push s) (on class.Dash (push s) (done k st))

-- after `;`: a rule; loosely `;` again, or the end
abbrev pub semicolon : Class → Next
semicolon = on class.Semicolon (dropped state.Semicolon) (on class.End (dropped state.Done) (λ c. with_cut cut.Instead (front c)))

-- after `||`
abbrev pub bars : Class → Next
bars c = with_cut cut.Fallback (front c)

-- another month, date or `easter`
abbrev pub more_month_days : Class → Option State
more_month_days class.Year = Some (state.Date date.Year)
more_month_days class.Month = Some (state.Month month.Month)
more_month_days class.Easter = Some (state.Easter easter.Easter)
more_month_days c = None

-- after a date, a day, too
abbrev pub more_dates : Class → Option State
more_dates class.Number = Some (state.Date date.ListedDay)
more_dates class.Twenty = Some (state.Date date.ListedTwenty)
more_dates c = more_month_days c

-- another holiday, in a list with weekdays or alone, or a weekday
abbrev pub more_days : Bool → Class → Option State
more_days mixed class.PublicHoliday = Some (state.Holiday holiday.Holiday mixed)
more_days mixed class.SchoolHoliday = Some (state.Holiday holiday.End mixed)
more_days mixed class.Weekday = Some (state.Weekday weekday.Weekday false)
more_days mixed c = None

abbrev pub more_times : Class → Option State
more_times class.Time = Some (state.Time time.First)
more_times class.Event = Some (state.Time time.First)
more_times class.Paren = Some (state.Time time.Paren)
more_times c = None

abbrev pub more_if : Bool → State → Option State
more_if b s = if b then Some s else None

-- after a comma: the list goes on where the token can
abbrev pub goes_on : Stage → Class → Option State
goes_on stage.Years c = more_if (code class.Year == code c) (state.Year year.Listed)
goes_on stage.Months c = more_month_days c
goes_on stage.Dates c = more_dates c
goes_on stage.Weeks c = more_if (is_number c) (state.Week week.Week)
goes_on stage.Holidays c = more_days false c
goes_on stage.Days c = more_days true c
goes_on stage.Led c = more_if (code class.Weekday == code c) (state.Weekday weekday.Weekday true)
goes_on stage.Mixed c = more_days true c
goes_on stage.Times c = more_times c
goes_on st c = None

-- else an additional rule begins
abbrev pub another : Class → Next
another c = with_cut cut.Also (front c)

-- a holiday after weekdays that holidays lead is read in two ways
abbrev pub begins : Stage → Class → Next
begins stage.Led c = on class.PublicHoliday (Err wrong.Ambiguous) (on class.SchoolHoliday (Err wrong.Ambiguous) another) c
begins st c = another c

abbrev pub listed : Option State → Next → Next
listed (Some s) n = push s
listed None n = n

-- loosely, a comma comes again, or the end
abbrev pub comma : Stage → Class → Next
comma st class.Comma = dropped (state.Comma st)
comma st class.End = dropped state.Done
comma st c = listed (goes_on st c) (begins st c)

-- after `Mo-Fr:`, where the colon is left out
abbrev pub days_colon : Class → Next
days_colon class.Time = later stage.Days class.Time
days_colon class.Event = later stage.Days class.Event
days_colon class.Paren = later stage.Days class.Paren
days_colon class.Word = later stage.Days class.Word
days_colon class.Comment = later stage.Days class.Comment
days_colon c = unexpected

-- ---- inside of parts

abbrev pub at_always : AlwaysState → Class → Next
-- `24`, at the beginning of a rule
at_always always.Twenty = only class.Slash (state.Always always.Slash)
-- `24/`
at_always always.Slash = number (state.Always always.End)
-- `24/7`
at_always always.End = done cut.Always stage.Always

-- `2024`
abbrev pub next_year : Class → Next
next_year = on class.Dash (push (state.Year year.Dash)) (on class.Slash (push (state.Year year.Slash))
    (on class.Plus (push (state.Year year.End)) (done cut.Years stage.Years)))

abbrev pub at_year : YearState → Class → Next
-- `2024`, first in a rule: a year, or that of a date
at_year year.First = on class.Month (push (state.Month month.OfYear)) (on class.Easter (push (state.Easter easter.Easter)) next_year)
-- `2024`, in a list of years
at_year year.Listed = next_year
-- `2024-`
at_year year.Dash = number (state.Year year.Range)
-- `2024-2030`
at_year year.Range = on class.Slash (push (state.Year year.Slash)) (done cut.Years stage.Years)
-- `2024-2030/`, `2024/`
at_year year.Slash = number (state.Year year.End)
-- `2024-2030/2`, `2024+`
at_year year.End = done cut.Years stage.Years

-- a day of the month, or the month is complete
abbrev pub day_or_done : Class → Next
day_or_done = numbers (push (state.Date date.Day)) (done cut.MonthDays stage.Months)

-- `Dec`: a month, or that of a date
abbrev pub next_month : State → Class → Next
next_month dash = on class.Dash (push dash) (on class.Weekday (push (state.Place place.Weekday true)) day_or_done)

abbrev pub at_month : MonthState → Class → Next
-- `2024 Dec`, first in a rule: a year and a month, or a date
at_month month.OfYear = next_month (state.Month month.OfYearDash)
-- `2024 Dec-`
at_month month.OfYearDash = on class.Month (push (state.Month month.End)) (number (state.Month month.LastYear))
-- `2024 Dec-2026`
at_month month.LastYear = only class.Month (state.Month month.End)
-- `Dec`
at_month month.Month = next_month (state.Month month.Dash)
-- `Oct-`
at_month month.Dash = only class.Month (state.Month month.End)
-- `Oct-Mar`, and a range that ends with a place or Easter and an offset
at_month month.End = done cut.MonthDays stage.Months

-- `31`: a day of a date, or a range from it on
abbrev pub next_day : Class → Next
next_day = on class.Dash (push (state.Last last.DateDash)) (done cut.MonthDays stage.Dates)

abbrev pub at_date : DateState → Class → Next
-- `2024`, of a date in a list
at_date date.Year = on class.Month (push (state.Date date.Month)) (only class.Easter (state.Easter easter.Easter))
-- `2024 Dec`, of a date in a list
at_date date.Month = on class.Dash (push (state.Date date.MonthDash)) (on class.Weekday (push (state.Place place.Weekday false))
    (number (state.Date date.Day)))
-- `2024 Dec-`, of months in a list
at_date date.MonthDash = number (state.Month month.LastYear)
-- `Dec 24`
at_date date.Day = on class.Plus (Err wrong.Unsupported) next_day
-- `31`, after a date and a comma
at_date date.ListedDay = next_day
-- `24`, after a date and a comma: a day, or `24/7`
at_date date.ListedTwenty = on class.Slash (with_cut cut.Also (push (state.Always always.Slash))) next_day

-- `Dec 24-`, `easter -2 days-`: the last end of a range, from its year, month or `easter` on
abbrev pub last_end : Class → Next
last_end = on class.Year (push (state.Last last.Year)) (on class.Month (push (state.Last last.Month))
    (only class.Easter (state.Last last.End)))

-- a number without four digits, or the last end of a range
abbrev pub small_or_end : State → Class → Next
small_or_end s = on class.Twenty (push s) (on class.Number (push s) last_end)

-- the same, or a weekday, which is not read
abbrev pub offset_or_end : State → Class → Next
offset_or_end s = on class.Weekday (Err wrong.Unsupported) (small_or_end s)

abbrev pub at_easter : EasterState → Class → Next
-- `easter`
at_easter easter.Easter = on class.Plus (push (state.Easter easter.Plus)) (on class.Dash (push (state.Easter easter.Dash))
    (done cut.MonthDays stage.Months))
-- `easter +`
at_easter easter.Plus = offset (state.Easter easter.Number)
-- `easter -`: an offset, or a range
at_easter easter.Dash = offset_or_end (state.Easter easter.Number)
-- `easter -2`
at_easter easter.Number = only class.Day (state.Easter easter.Offset)
-- `easter -2 days`
at_easter easter.Offset = on class.Dash (push (state.Last last.OffsetDash)) (done cut.MonthDays stage.Months)

abbrev pub at_last : LastState → Class → Next
-- `Dec 24-`
at_last last.DateDash = small_or_end (state.Last last.Day)
-- `easter -2 days-`
at_last last.OffsetDash = last_end
-- `Dec 24-2025`
at_last last.Year = on class.Month (push (state.Last last.Month)) (only class.Easter (state.Last last.End))
-- `Dec 24-Jan`
at_last last.Month = on class.Weekday (push (state.Last last.Weekday)) (number (state.Last last.Day))
-- `Dec 24-Jan 3`
at_last last.Day = on class.Day (Err wrong.Unsupported) (done cut.MonthDays stage.Dates)
-- `Dec 24-Jan Su`
at_last last.Weekday = only class.Open (state.Last last.Open)
-- `Dec 24-Jan Su[`
at_last last.Open = number_or_dash (state.Last last.Number) (state.Last last.Back)
-- `Dec 24-Jan Su[-`
at_last last.Back = number (state.Last last.Number)
-- `Dec 24-Jan Su[1`
at_last last.Number = only class.Close (state.Last last.End)
-- `Dec 24-Jan Su[1]`, `Jan 6-easter`
at_last last.End = sign_or_done (state.Last last.Sign) cut.MonthDays stage.Months
-- `Jan 6-easter -`
at_last last.Sign = offset (state.Last last.Days)
-- `Jan 6-easter -47`
at_last last.Days = only class.Day (state.Month month.End)

abbrev pub at_week : WeekState → Class → Next
-- `week`
at_week week.Front = number (state.Week week.Week)
-- `10`, in a list of weeks
at_week week.Week = on class.Dash (push (state.Week week.Dash)) (done cut.Week stage.Weeks)
-- `10-`
at_week week.Dash = number (state.Week week.Range)
-- `10-20`
at_week week.Range = on class.Slash (push (state.Week week.Slash)) (done cut.Week stage.Weeks)
-- `10-20/`
at_week week.Slash = number (state.Week week.End)
-- `10-20/2`
at_week week.End = done cut.Week stage.Weeks

-- holidays in a list with weekdays, or alone
abbrev pub holidays : Bool → Stage
holidays true = stage.Mixed
holidays false = stage.Holidays

abbrev pub at_holiday : HolidayState → Bool → Class → Next
-- `PH`
at_holiday holiday.Holiday mixed = sign_or_done (state.Holiday holiday.Sign mixed) cut.Day (holidays mixed)
-- `PH -`
at_holiday holiday.Sign mixed = offset (state.Holiday holiday.Days mixed)
-- `PH -1`
at_holiday holiday.Days mixed = only class.Day (state.Holiday holiday.End mixed)
-- `PH -1 day`, `SH`
at_holiday holiday.End mixed = done cut.Day (holidays mixed)

-- weekdays that holidays lead, or others
abbrev pub days : Bool → Stage
days true = stage.Led
days false = stage.Days

-- `Mo`: a range, places, or the weekday is complete
abbrev pub next_days : Bool → Class → Next
next_days led = on class.Dash (push (state.Weekday weekday.Dash led))
    (on class.Open (push (state.Weekday weekday.Open led)) (done cut.Day (days led)))

-- a number in brackets: another one, or the end
abbrev pub in_brackets : Bool → Class → Next
in_brackets led = on class.Comma (push (state.Weekday weekday.Open led)) (only class.Close (state.Weekday weekday.Close led))

abbrev pub at_weekday : WeekdayState → Bool → Class → Next
-- `Mo`
at_weekday weekday.Weekday led = next_days led
-- `Mo-`
at_weekday weekday.Dash led = only class.Weekday (state.Weekday weekday.Range led)
-- `Mo-Fr`
at_weekday weekday.Range led = done cut.Day (days led)
-- `We[`
at_weekday weekday.Open led = number_or_dash (state.Weekday weekday.Number led) (state.Weekday weekday.NumberDash led)
-- `We[-`, `We[1-`
at_weekday weekday.NumberDash led = number (state.Weekday weekday.NumberEnd led)
-- `We[1`
at_weekday weekday.Number led = on class.Dash (push (state.Weekday weekday.NumberDash led)) (in_brackets led)
-- `We[-1`, `We[1-2`
at_weekday weekday.NumberEnd led = in_brackets led
-- `We[1]`
at_weekday weekday.Close led = sign_or_done (state.Weekday weekday.Sign led) cut.Day (days led)
-- `We[1] -`
at_weekday weekday.Sign led = offset (state.Weekday weekday.Days led)
-- `We[1] -2`
at_weekday weekday.Days led = only class.Day (state.Weekday weekday.Offset led)
-- `We[1] -2 days`
at_weekday weekday.Offset led = done cut.Day (days led)

-- a month before a weekday that is no end of a range is a part by itself, if it has a meaning apart
abbrev pub falls_apart : Bool → WeekdayState → Class → Next
falls_apart apart s c = when apart (with_cut cut.Before (at_weekday s false c))

abbrev pub close_or_apart : Bool → WeekdayState → Class → Next
close_or_apart apart s = on class.Close (push (state.Place place.Close apart)) (falls_apart apart s)

abbrev pub at_place : PlaceState → Bool → Class → Next
-- `Mar Su`
at_place place.Weekday apart = on class.Open (push (state.Place place.Open apart)) (falls_apart apart weekday.Weekday)
-- `Mar Su[`
at_place place.Open apart = number_or_dash (state.Place place.Number apart) (state.Place place.Back apart)
-- `Mar Su[-`
at_place place.Back apart = number (state.Place place.NumberBack apart)
-- `Mar Su[1`
at_place place.Number apart = close_or_apart apart weekday.Number
-- `Mar Su[-1`
at_place place.NumberBack apart = close_or_apart apart weekday.NumberEnd
-- `Mar Su[-1]`
at_place place.Close apart = on class.Dash (push (state.Place place.Dash apart))
    (on class.Plus (push (state.Place place.Plus apart)) (falls_apart apart weekday.Close))
-- `Mar Su[-1] +`
at_place place.Plus apart = offset (state.Place place.Days apart)
-- `Mar Su[-1] -`: an offset, or a range
at_place place.Dash apart = offset_or_end (state.Place place.Days apart)
-- `Mar Su[-1] -2`
at_place place.Days apart = only class.Day (state.Place place.Offset apart)
-- `Mar Su[-1] -2 days`
at_place place.Offset apart = on class.Dash (push (state.Last last.OffsetDash)) (falls_apart apart weekday.Offset)

-- `08:00`: a range, an open end, or a point
abbrev pub first_moment : Class → Next
first_moment = on class.Dash (push (state.Time time.Dash)) (on class.Plus (push (state.Time time.End))
    (done cut.Time stage.Times))

-- `08:00-`
abbrev pub last_moment : Class → Next
last_moment = on class.Time (push (state.Time time.Range)) (on class.Event (push (state.Time time.Range))
    (only class.Paren (state.Time time.LastParen)))

-- `08:00-17:00`: an open end, a step, another time without a comma, or the range is complete
abbrev pub after_range : Class → Next
after_range = on class.Plus (push (state.Time time.End)) (on class.Slash (push (state.Time time.Slash))
    (on class.Time (missing (state.Time time.First)) (on class.Event (missing (state.Time time.First))
    (on class.Paren (missing (state.Time time.Paren)) (done cut.Time stage.Times)))))

abbrev pub at_time : TimeState → Class → Next
-- `08:00`, `(sunrise+01:00)`
at_time time.First = first_moment
-- `(`
at_time time.Paren = only class.Event (state.Time time.Event)
-- `(sunrise`
at_time time.Event = sign (state.Time time.Sign)
-- `(sunrise+`
at_time time.Sign = only class.Time (state.Time time.Offset)
-- `(sunrise+01:00`
at_time time.Offset = only class.Unparen (state.Time time.First)
-- `08:00-`
at_time time.Dash = last_moment
-- `08:00-(`
at_time time.LastParen = only class.Event (state.Time time.LastEvent)
-- `08:00-(sunset`
at_time time.LastEvent = sign (state.Time time.LastSign)
-- `08:00-(sunset-`
at_time time.LastSign = only class.Time (state.Time time.LastOffset)
-- `08:00-(sunset-01:00`
at_time time.LastOffset = only class.Unparen (state.Time time.Range)
-- `08:00-17:00`
at_time time.Range = after_range
-- `10:00-16:00/`
at_time time.Slash = on class.Time (push (state.Time time.End)) (number (state.Time time.End))
-- `17:00+`, `10:00-16:00/30`
at_time time.End = done cut.Time stage.Times

-- ---- the machine: what a token of a class does in a state
abbrev pub next : State → Class → Next
next state.Front = front
next state.Semicolon = semicolon
next state.Bars = bars
next (state.After st) = after st
next (state.Comma st) = comma st
next state.DaysColon = days_colon
next state.Done = nothing
next (state.Always s) = at_always s
next (state.Year s) = at_year s
next (state.Month s) = at_month s
next (state.Date s) = at_date s
next (state.Easter s) = at_easter s
next (state.Place s apart) = at_place s apart
next (state.Last s) = at_last s
next (state.Week s) = at_week s
next (state.Holiday s mixed) = at_holiday s mixed
next (state.Weekday s led) = at_weekday s led
next (state.Time s) = at_time s

-- all classes, in their order
abbrev pub classes : List Class
classes = class.Year ∷ class.Twenty ∷ class.Number ∷ class.Time ∷ class.Month ∷ class.Weekday ∷ class.PublicHoliday ∷ class.SchoolHoliday
    ∷ class.Easter ∷ class.Week ∷ class.Event ∷ class.Word ∷ class.Day ∷ class.Comment ∷ class.Comma ∷ class.Semicolon ∷ class.Bars ∷ class.Dash
    ∷ class.Slash ∷ class.Colon ∷ class.Open ∷ class.Close ∷ class.Plus ∷ class.Paren ∷ class.Unparen ∷ class.End ∷ []

abbrev pub is_step : Next → Bool
is_step (Ok step) = true
is_step (Err w) = false

abbrev pub leads_on : State → Class → Bool
leads_on s c = is_step (next s c)

abbrev pub only_if : Bool → Class → List Class
only_if true c = c ∷ []
only_if false c = []

-- which classes lead on from a state
abbrev pub accepted : State → List Class
accepted s = filter (leads_on s) classes
