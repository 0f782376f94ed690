-- What is known of the numbers and times that a place keeps, and which ones fit next.
use Rattle.std.specs.Prelude.{◌≡◌, ℕ, ◌<◌, ◌≤◌, Bool, true, false, ◌&&◌, ◌==◌, Option, Some, None, IfSome, is_some}
use Rattle.gtd_hours.specs.Ranges.{IsMonth, IsWeekday}
use Rattle.gtd_hours_tokens.specs.declared.token.TokenKind.TheVariants as token
use Rattle.gtd_hours_parts.specs.declared.digits.Digits.{Digits}
use Rattle.gtd_hours_parts.specs.declared.clock.ClockTime.{ClockTime}
use Rattle.gtd_hours_parts.specs.Numbers.{IsOffsetNumber, IsPlaceNumber, IsStepNumber, IsWeekNumber, IsYearNumber}
use Rattle.gtd_hours_parts.specs.Times.{IsBegin}
use Rattle.gtd_hours_parts.specs.declared.piece.Offset.{Offset}
use Rattle.gtd_hours_parts.specs.declared.piece.WrittenDate.{WrittenDate}
use Rattle.gtd_hours_parts.specs.declared.piece.LastDate.TheVariants as last_date
use Rattle.gtd_hours_moves.specs.Terms.{TokenKind, Stage, Place}
use Rattle.gtd_hours_moves.specs.declared.stage.Stage.TheVariants as stage
use Rattle.gtd_hours_moves.specs.declared.place.Place.TheVariants as places
use Rattle.gtd_hours_moves.specs.Grammar.{precedes}
use Rattle.gtd_hours_parts.specs.Pieces.{AreBackWeeks, AreFewYears, AreMonthsOfYears, AreWrittenTimes, EndsRange, IsDay}
use Rattle.gtd_hours_parts.specs.Pieces.{IsRange, IsWrittenDate}

pub record Both (A B : Type 0) : Type 0 where
  pub one : A
  pub other : B

-- the year of a last date stands only where the first date has one
abbrev pub IsLastYear : WrittenDate → Option Digits → Type 0
IsLastYear first year = Both (is_some year ≡ true → is_some first.year ≡ true) (IfSome year IsYearNumber)

-- How far an offset may go from the places in brackets so far: their reach is 0 where none may; else it is one more than the
-- days that one before them may have, and one after them may have any.
abbrev pub Reaches : ℕ → Bool → ℕ → Type 0
Reaches reach true days = days < reach
Reaches reach false days = 1 ≤ reach

abbrev pub ReachesTo : ℕ → Option Offset → Type 0
ReachesTo reach None = Unit {0}
ReachesTo reach (Some o) = Reaches reach o.is_before o.days.value

-- the numbers and times that a place keeps are in range
abbrev pub IsPlace : Place → Type 0
IsPlace (places.Year n) = IsYearNumber n
IsPlace (places.YearMonth n m) = Both (IsYearNumber n) (IsMonth m)
IsPlace (places.MonthAfterYear m) = IsMonth m
IsPlace (places.YearMonthDash n m) = Both (IsYearNumber n) (IsMonth m)
IsPlace (places.MonthDashAfterYear m) = IsMonth m
IsPlace (places.ListedYear n) = IsYearNumber n
IsPlace (places.YearDash n) = IsYearNumber n
IsPlace (places.YearRange a b) = IsRange IsYearNumber a b
IsPlace (places.YearStep a b) = IsRange IsYearNumber a b
IsPlace (places.YearSlash n) = IsYearNumber n
IsPlace (places.DateYear n) = IsYearNumber n
IsPlace (places.DateYearMonth n m) = Both (IsYearNumber n) (IsMonth m)
IsPlace (places.DateYearMonthDash n m) = Both (IsYearNumber n) (IsMonth m)
IsPlace (places.MonthsYear a m b) = Both (IsRange IsYearNumber a b) (IsMonth m)
IsPlace (places.Month m) = IsMonth m
IsPlace (places.MonthDash m) = IsMonth m
IsPlace (places.Date x) = IsWrittenDate x
IsPlace (places.ListedDay x) = IsWrittenDate x
IsPlace (places.DateDash x) = IsWrittenDate x
IsPlace (places.DateDashYear x n) = Both (IsWrittenDate x) (Both (is_some x.year ≡ true) (IsYearNumber n))
IsPlace (places.DateDashMonth x year m) = Both (IsWrittenDate x) (Both (IsLastYear x year) (IsMonth m))
IsPlace (places.Week n) = IsWeekNumber n
IsPlace (places.WeekDash n) = IsWeekNumber n
IsPlace (places.WeekRange a b) = IsRange IsWeekNumber a b
IsPlace (places.WeekStep a b) = IsRange IsWeekNumber a b
IsPlace (places.WeekBack a b) = AreBackWeeks a b
IsPlace (places.WeekAgain a b) = AreBackWeeks a b
IsPlace (places.Weekday k) = IsWeekday k
IsPlace (places.WeekdayDash k) = IsWeekday k
IsPlace (places.Bracket k r) = IsWeekday k
IsPlace (places.BracketDash k r) = IsWeekday k
IsPlace (places.Nth k n r) = Both (IsWeekday k) (IsPlaceNumber n)
IsPlace (places.NthDash k n r) = Both (IsWeekday k) (IsPlaceNumber n)
IsPlace (places.BracketEnd k r) = IsWeekday k
IsPlace (places.OffsetSign before r) = Reaches r before 1
IsPlace (places.OffsetNumber o) = IsOffsetNumber o.days
IsPlace (places.Time t) = IsBegin t
IsPlace (places.TimeDash t) = IsBegin t
IsPlace (places.AfterDate year m) = Both (IfSome year IsYearNumber) (IsMonth m)
IsPlace (places.CommaDate year m) = Both (IfSome year IsYearNumber) (IsMonth m)
IsPlace (places.After s) = precedes stage.Front s ≡ true
IsPlace (places.Comma s) = precedes stage.Front s ≡ true
IsPlace place = Unit {0}

-- a number of four digits behind a date with a year and a dash is a year
abbrev pub is_last_year : WrittenDate → Digits → Bool
is_last_year first n = is_some first.year && n.count == 4

abbrev pub YearOrDay : Bool → WrittenDate → Digits → Type 0
YearOrDay true first n = IsYearNumber n
YearOrDay false first n = EndsRange first (last_date.Day n)

abbrev pub YearOrDayFits : WrittenDate → Digits → Type 0
YearOrDayFits first n = YearOrDay (is_last_year first n) first n

-- behind a date and a comma, a number of four digits is a year, and another one a day
abbrev pub YearOrListed : Bool → Option Digits → ℕ → Digits → Type 0
YearOrListed true year m n = IsYearNumber n
YearOrListed false year m n = IsDay year m n

-- the number goes on with the list of a stage
abbrev pub ListedFits : Stage → Digits → Type 0
ListedFits stage.Years n = IsYearNumber n
ListedFits stage.MonthDays n = IsYearNumber n
ListedFits stage.Weeks n = IsWeekNumber n
ListedFits s n = ⊥

-- the number fits next
abbrev pub NumberFits : Place → Digits → Type 0
NumberFits places.Front n = IsYearNumber n
NumberFits places.TwentyFourSlash n = (n.value ≡ 7) × (n.count ≡ 1)
NumberFits (places.YearMonth year m) n = IsDay (Some year) m n
NumberFits (places.YearMonthDash first m) n = IsRange IsYearNumber first n
NumberFits (places.YearDash first) n = IsRange IsYearNumber first n
NumberFits (places.YearStep first last) n = IsStepNumber n
NumberFits (places.YearSlash first) n = AreFewYears first n
NumberFits (places.DateYearMonth year m) n = IsDay (Some year) m n
NumberFits (places.DateYearMonthDash first m) n = IsRange IsYearNumber first n
NumberFits (places.Month m) n = IsDay None m n
NumberFits (places.DateDash first) n = YearOrDayFits first n
NumberFits (places.DateDashMonth first year m) n =
    EndsRange first (last_date.Date (record { year = year; month = m; day = n }))
NumberFits places.WeekWord n = IsWeekNumber n
NumberFits (places.WeekDash first) n = IsWeekNumber n
NumberFits (places.WeekStep first last) n = IsStepNumber n
NumberFits (places.Bracket k r) n = IsPlaceNumber n
NumberFits (places.BracketDash k r) n = IsPlaceNumber n
NumberFits (places.NthDash k first r) n = IsRange IsPlaceNumber first n
NumberFits (places.OffsetSign before r) n = IsOffsetNumber n × Reaches r before n.value
NumberFits (places.AfterDate year m) n = IsYearNumber n
NumberFits (places.CommaDate year m) n = YearOrListed (n.count == 4) year m n
NumberFits (places.After s) n = IsYearNumber n
NumberFits (places.Comma s) n = ListedFits s n
NumberFits place n = ⊥

-- the time fits next
abbrev pub TimeFits : Place → ClockTime → Type 0
TimeFits (places.TimeDash begin) t = AreWrittenTimes begin t
TimeFits place t = IsBegin t

-- the month fits next
abbrev pub MonthFits : Place → ℕ → Type 0
MonthFits (places.MonthsYear first m last) l = AreMonthsOfYears first m last l
MonthFits place m = IsMonth m

-- the number, time, month or weekday that comes next fits
abbrev pub Fits : Place → Option TokenKind → Type 0
Fits place (Some (token.Number value digits)) = NumberFits place (record { value = value; count = digits })
Fits place (Some (token.Time hour minute)) = TimeFits place (record { hour = hour; minute = minute })
Fits place (Some (token.Month month)) = MonthFits place month
Fits place (Some (token.Weekday weekday)) = IsWeekday weekday
Fits place next = ⊥

-- Some number can come next, with digits and a value that fit.
abbrev pub takes_number : Place → Bool
takes_number places.Front = true
takes_number places.TwentyFourSlash = true
takes_number (places.Year n) = true
takes_number (places.YearMonth n m) = true
takes_number (places.MonthAfterYear m) = true
takes_number (places.YearMonthDash n m) = true
takes_number (places.ListedYear n) = true
takes_number (places.YearDash n) = true
takes_number (places.YearRange a b) = true
takes_number (places.YearStep a b) = true
takes_number (places.YearSlash n) = true
takes_number (places.DateYearMonth n m) = true
takes_number (places.DateYearMonthDash n m) = true
takes_number (places.Month m) = true
takes_number (places.DateDash x) = true
takes_number (places.DateDashMonth x year m) = true
takes_number places.WeekWord = true
takes_number (places.WeekDash n) = true
takes_number (places.WeekStep a b) = true
takes_number (places.Bracket k r) = true
takes_number (places.BracketDash k r) = true
takes_number (places.NthDash k n r) = true
takes_number (places.OffsetSign before r) = true
takes_number (places.CommaDate year m) = true
takes_number (places.After s) = precedes s stage.MonthDays
takes_number (places.Comma s) = true
takes_number place = false

-- Some time can come next.
abbrev pub takes_time : Place → Bool
takes_time places.Front = true
takes_time (places.Year n) = true
takes_time (places.YearMonth n m) = true
takes_time (places.MonthAfterYear m) = true
takes_time (places.ListedYear n) = true
takes_time (places.YearRange a b) = true
takes_time (places.Month m) = true
takes_time (places.Date x) = true
takes_time (places.ListedDay x) = true
takes_time (places.AfterDate year m) = true
takes_time (places.CommaDate year m) = true
takes_time (places.Week n) = true
takes_time (places.WeekRange a b) = true
takes_time (places.WeekBack a b) = true
takes_time (places.WeekAgain a b) = true
takes_time (places.Weekday k) = true
takes_time (places.PlacesEnd r) = true
takes_time (places.TimeDash t) = true
takes_time (places.After s) = precedes s stage.Times
takes_time (places.Comma s) = true
takes_time place = false
