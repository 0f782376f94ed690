-- Which pieces a list of tokens is: the grammar of opening hours.
use Rattle.std.specs.Prelude.{List, ◌≡◌, ℕ, Bool, true, false, ◌==◌, nat_lt, [], ◌∷◌, ◌++◌, Option, Some, None, IfSome, is_some}
use Rattle.gtd_hours.specs.Ranges.{IsMonth, IsMovable, IsWeekday}
use Rattle.gtd_hours.specs.declared.hours.Link.TheVariants as link
use Rattle.gtd_hours_tokens.specs.declared.token.TokenKind.TheVariants as token
use Rattle.gtd_hours_parts.specs.declared.digits.Digits.{Digits}
use Rattle.gtd_hours_parts.specs.declared.clock.ClockTime.{ClockTime}
use Rattle.gtd_hours_parts.specs.Numbers.{IsOffsetNumber, IsPlaceNumber, IsStepNumber, IsWeekNumber, IsYearNumber}
use Rattle.gtd_hours_parts.specs.declared.piece.Offset.{Offset}
use Rattle.gtd_hours_parts.specs.declared.piece.WrittenDate.{WrittenDate}
use Rattle.gtd_hours_parts.specs.declared.piece.LastDate.{LastDate}
use Rattle.gtd_hours_parts.specs.declared.piece.LastDate.TheVariants as last_date
use Rattle.gtd_hours_moves.specs.Terms.{TokenKind, Piece, Stage}
use Rattle.gtd_hours_parts.specs.declared.piece.Piece.TheVariants as piece
use Rattle.gtd_hours_moves.specs.declared.stage.Stage.TheVariants as stage
use Rattle.gtd_hours_parts.specs.Pieces.{AreBackWeeks, AreFewYears, AreMonthsOfYears, AreWrittenDates, AreWrittenTimes}
use Rattle.gtd_hours_parts.specs.Pieces.{IsDay, IsRange}
use Rattle.gtd_hours_parts.specs.Pieces.{IsWrittenDate, day_behind, end_month, end_year, final_week, final_year}
use Rattle.gtd_hours_parts.specs.Pieces.{first_day_of, last_day_of, week_one}

-- What is asked of tokens: that they are a text in full; that they can be its beginning so far, where a text that has come to
-- the last date of a range is judged at that date's day, and one that has come to a last month with a year at that month; or the
-- same, where a number or a month that comes last need only fit by its place and weeks that go back may have a step; or where a
-- step that comes last may be one of more years than a domain holds.
pub data Demand : Type 0 where
  in_full : Demand
  so_far : Demand
  by_place : Demand
  with_years : Demand

abbrev pub may_break_off : Demand → Bool
may_break_off in_full = false
may_break_off so_far = true
may_break_off by_place = true
may_break_off with_years = true

-- The first pieces and tokens go together, and the others are left.
abbrev pub Text : Type 1
Text = List Piece → List TokenKind → List Piece → List TokenKind → Type 0

abbrev pub number : Digits → TokenKind
number n = token.Number n.value n.count

abbrev pub time : ClockTime → TokenKind
time t = token.Time t.hour t.minute

-- What goes on behind one of a list: nothing, or a comma and another one.
pub data More (IsOne : Text) (later : List Piece) (rest : List TokenKind) : List Piece → List TokenKind → Type 0 where
  none : (p : List Piece) → (ts : List TokenKind) → p ≡ later → ts ≡ rest → More IsOne later rest p ts
  comma : (p q : List Piece) → (ts us vs : List TokenKind) → ts ≡ token.Comma ∷ us → IsOne p us q vs
      → More IsOne later rest q vs → More IsOne later rest p ts

-- a list of one or more, with commas between
pub record Listed (IsOne : Text) (p : List Piece) (ts : List TokenKind) (later : List Piece) (rest : List TokenKind) : Type 0
  where
    pub q : List Piece
    pub us : List TokenKind
    pub one : IsOne p ts q us
    pub more : More IsOne later rest q us

-- ---- what stands in lists

-- `2024`, `2024-2030`, `2024-2030/2`, `2024+`, `2024/8`: without a last year the years go on to the last one of the calendar.
pub data IsYears (demand : Demand) (p : List Piece) (ts : List TokenKind) (later : List Piece) (rest : List TokenKind)
    : Type 0 where
  one : (year : Digits) → ts ≡ number year ∷ rest → p ≡ piece.Years year None None ∷ later → IsYearNumber year
      → IsYears demand p ts later rest
  range : (first last : Digits) → ts ≡ number first ∷ token.Dash ∷ number last ∷ rest
      → p ≡ piece.Years first (Some last) None ∷ later → IsRange IsYearNumber first last → IsYears demand p ts later rest
  every : (first last step : Digits)
      → ts ≡ number first ∷ token.Dash ∷ number last ∷ token.Slash ∷ number step ∷ rest
      → p ≡ piece.Years first (Some last) (Some step) ∷ later → IsRange IsYearNumber first last → IsStepNumber step
      → IsYears demand p ts later rest
  on : (first : Digits) → ts ≡ number first ∷ token.Plus ∷ rest → p ≡ piece.Years first (Some final_year) None ∷ later
      → IsYearNumber first → IsYears demand p ts later rest
  every_on : (first step : Digits) → ts ≡ number first ∷ token.Slash ∷ number step ∷ rest
      → p ≡ piece.Years first (Some final_year) (Some step) ∷ later → IsYearNumber first → AreFewYears first step
      → IsYears demand p ts later rest
  many : (first step : Digits) → demand ≡ with_years → ts ≡ number first ∷ token.Slash ∷ number step ∷ [] → rest ≡ []
      → p ≡ later → IsYearNumber first → IsStepNumber step → IsYears demand p ts later rest

-- `10`, `10-20`, `10-20/2`, `46-12`: a range that goes back is that to week 53 and that from week 1 on. It has no step, since
-- weeks 53 and 1 would break it.
pub data IsWeeks (demand : Demand) (p : List Piece) (ts : List TokenKind) (later : List Piece) (rest : List TokenKind)
    : Type 0 where
  one : (week : Digits) → ts ≡ number week ∷ rest → p ≡ piece.Weeks week None None ∷ later → IsWeekNumber week
      → IsWeeks demand p ts later rest
  range : (first last : Digits) → ts ≡ number first ∷ token.Dash ∷ number last ∷ rest
      → p ≡ piece.Weeks first (Some last) None ∷ later → IsRange IsWeekNumber first last → IsWeeks demand p ts later rest
  every : (first last step : Digits)
      → ts ≡ number first ∷ token.Dash ∷ number last ∷ token.Slash ∷ number step ∷ rest
      → p ≡ piece.Weeks first (Some last) (Some step) ∷ later → IsRange IsWeekNumber first last → IsStepNumber step
      → IsWeeks demand p ts later rest
  back : (first last : Digits) → ts ≡ number first ∷ token.Dash ∷ number last ∷ rest
      → p ≡ piece.Weeks first (Some final_week) None ∷ piece.Weeks week_one (Some last) None ∷ later
      → AreBackWeeks first last → IsWeeks demand p ts later rest
  back_step : (first last : Digits) → demand ≡ by_place
      → ts ≡ number first ∷ token.Dash ∷ number last ∷ token.Slash ∷ [] → rest ≡ [] → p ≡ later → AreBackWeeks first last
      → IsWeeks demand p ts later rest

-- the tokens of a month, after a year if there is one, and what follows them
abbrev pub dated : Option Digits → ℕ → List TokenKind → List TokenKind
dated None month ts = token.Month month ∷ ts
dated (Some year) month ts = number year ∷ token.Month month ∷ ts

-- the tokens of a date, and what follows them
abbrev pub date_before : WrittenDate → List TokenKind → List TokenKind
date_before date rest = dated date.year date.month (number date.day ∷ rest)

-- the tokens of the day or date that a range ends with, and what follows them
abbrev pub last_before : LastDate → List TokenKind → List TokenKind
last_before (last_date.Day day) rest = number day ∷ rest
last_before (last_date.Date date) rest = date_before date rest

-- the tokens of a last date that breaks off before its day
abbrev pub unfinished : Option Digits → Option ℕ → List TokenKind
unfinished None None = []
unfinished None (Some month) = token.Month month ∷ []
unfinished (Some year) None = number year ∷ []
unfinished (Some year) (Some month) = number year ∷ token.Month month ∷ []

-- the tokens of the end of a range, if there is one, and what follows them
abbrev pub range_to : Option LastDate → List TokenKind → List TokenKind
range_to None rest = rest
range_to (Some last) rest = token.Dash ∷ last_before last rest

-- What follows a date: `-20` and `-2025 Jan 3`, or nothing; and then days behind commas, which go on in the month and the year
-- of the last date: `,31` and `,29-31`.
-- The last date after one with a year is judged at its day: a text that breaks off before that day can go on, whichever the year
-- and the month are, and any number fits by its place there.
pub data IsDates (demand : Demand) (later : List Piece) (rest : List TokenKind)
    : WrittenDate → List Piece → List TokenKind → Type 0
  where
    one : (x : WrittenDate) → (last : Option LastDate) → (p : List Piece) → (ts : List TokenKind) → ts ≡ range_to last rest
        → p ≡ piece.Dates x last ∷ later → AreWrittenDates x last → IsDates demand later rest x p ts
    also : (x : WrittenDate) → (last : Option LastDate) → (day : Digits) → (p q : List Piece) → (ts us : List TokenKind)
        → ts ≡ range_to last (token.Comma ∷ number day ∷ us) → p ≡ piece.Dates x last ∷ q → AreWrittenDates x last
        → IsDay (end_year x last) (end_month x last) day → IsDates demand later rest (day_behind x last day) q us
        → IsDates demand later rest x p ts
    cut : (x : WrittenDate) → (year : Option Digits) → (m : Option ℕ) → (p : List Piece) → (ts : List TokenKind)
        → may_break_off demand ≡ true → is_some x.year ≡ true → IfSome year IsYearNumber → IfSome m IsMonth
        → ts ≡ token.Dash ∷ unfinished year m → rest ≡ [] → p ≡ later → IsDates demand later rest x p ts
    any_day : (x last : WrittenDate) → (p : List Piece) → (ts : List TokenKind) → demand ≡ by_place → is_some x.year ≡ true
        → IfSome last.year IsYearNumber → IsMonth last.month → ts ≡ token.Dash ∷ date_before last [] → rest ≡ [] → p ≡ later
        → IsDates demand later rest x p ts

-- the tokens of months of years, up to the second year, and what follows them
abbrev pub months_to : Digits → ℕ → Digits → List TokenKind → List TokenKind
months_to a m b rest = number a ∷ token.Month m ∷ token.Dash ∷ number b ∷ rest

-- the days of months of years
abbrev pub days_of_months : Digits → ℕ → Digits → ℕ → Piece
days_of_months a m b l = piece.Dates (first_day_of a m) (Some (last_date.Date (last_day_of b l)))

-- `Apr`, `Apr-Sep`, `Apr 10`, `Apr 10-20`, `2024 Dec 24-2025 Jan 3`, `Dec 24,31`; `2024 Dec-2026 Mar`, which is all days of
-- these months and is judged at the last of them
pub data IsMonthDays (demand : Demand) (p : List Piece) (ts : List TokenKind) (later : List Piece) (rest : List TokenKind)
    : Type 0 where
  month : (m : ℕ) → ts ≡ token.Month m ∷ rest → p ≡ piece.Months m None ∷ later → IsMonth m
      → IsMonthDays demand p ts later rest
  months : (first last : ℕ) → ts ≡ token.Month first ∷ token.Dash ∷ token.Month last ∷ rest
      → p ≡ piece.Months first (Some last) ∷ later → IsMonth first → IsMonth last → IsMonthDays demand p ts later rest
  dates : (x : WrittenDate) → (us : List TokenKind) → ts ≡ date_before x us → IsWrittenDate x → IsDates demand later rest x p us
      → IsMonthDays demand p ts later rest
  of_years : (a b : Digits) → (m l : ℕ) → ts ≡ months_to a m b (token.Month l ∷ rest) → p ≡ days_of_months a m b l ∷ later
      → IsRange IsYearNumber a b → IsMonth m → AreMonthsOfYears a m b l → IsMonthDays demand p ts later rest
  cut : (a b : Digits) → (m : ℕ) → may_break_off demand ≡ true → IsRange IsYearNumber a b → IsMonth m → ts ≡ months_to a m b []
      → rest ≡ [] → p ≡ later → IsMonthDays demand p ts later rest
  any_month : (a b : Digits) → (m l : ℕ) → demand ≡ by_place → IsRange IsYearNumber a b → IsMonth m
      → ts ≡ months_to a m b (token.Month l ∷ []) → rest ≡ [] → p ≡ later → IsMonthDays demand p ts later rest

-- an offset, if there is one, has 1 to 27 days
abbrev pub IsOffset : Option Offset → Type 0
IsOffset offset = IfSome offset (λ (o : Offset). IsOffsetNumber o.days)

-- it suits a place from the beginning of the month, or back from its end
abbrev pub Suits : Option Offset → Bool → ℕ → Type 0
Suits None is_back place = Unit {0}
Suits (Some o) is_back place = IsMovable place is_back o.days.value o.is_before

abbrev pub sign : Bool → TokenKind
sign true = token.Dash
sign false = token.Plus

-- the tokens of an offset, if there is one, and what follows them
abbrev pub offset_before : Option Offset → List TokenKind → List TokenKind
offset_before None rest = rest
offset_before (Some o) rest = sign o.is_before ∷ number o.days ∷ token.Day ∷ rest

-- `1`, `1-2`, `-1`, in brackets after the weekday, which the offset behind the brackets suits
pub data IsPlaces (weekday : ℕ) (offset : Option Offset) (p : List Piece) (ts : List TokenKind) (later : List Piece)
    (rest : List TokenKind) : Type 0 where
  one : (n : Digits) → ts ≡ number n ∷ rest → p ≡ piece.Places weekday n None ∷ later → IsPlaceNumber n
      → Suits offset false n.value → IsPlaces weekday offset p ts later rest
  range : (first last : Digits) → ts ≡ number first ∷ token.Dash ∷ number last ∷ rest
      → p ≡ piece.Places weekday first (Some last) ∷ later → IsRange IsPlaceNumber first last
      → Suits offset false last.value → IsPlaces weekday offset p ts later rest
  back : (n : Digits) → ts ≡ token.Dash ∷ number n ∷ rest → p ≡ piece.PlaceBack weekday n ∷ later → IsPlaceNumber n
      → Suits offset true n.value → IsPlaces weekday offset p ts later rest

-- `Mo`, `Mo-Fr`, `We[1]`, `We[1,3-4,-1]`, `We[1] -2 days`
pub data IsWeekdays (p : List Piece) (ts : List TokenKind) (later : List Piece) (rest : List TokenKind) : Type 0 where
  one : (k : ℕ) → ts ≡ token.Weekday k ∷ rest → p ≡ piece.Weekdays k None ∷ later → IsWeekday k → IsWeekdays p ts later rest
  range : (first last : ℕ) → ts ≡ token.Weekday first ∷ token.Dash ∷ token.Weekday last ∷ rest
      → p ≡ piece.Weekdays first (Some last) ∷ later → IsWeekday first → IsWeekday last → IsWeekdays p ts later rest
  places : (k : ℕ) → (offset : Option Offset) → (us : List TokenKind) → ts ≡ token.Weekday k ∷ token.OpenBracket ∷ us
      → IsWeekday k → IsOffset offset
      → Listed (IsPlaces k offset) p us (piece.PlacesEnd offset ∷ later) (token.CloseBracket ∷ offset_before offset rest)
      → IsWeekdays p ts later rest

-- `08:00-17:00`
pub record IsTimes (p : List Piece) (ts : List TokenKind) (later : List Piece) (rest : List TokenKind) : Type 0 where
  pub begin : ClockTime
  pub last : ClockTime
  pub tokens : ts ≡ time begin ∷ token.Dash ∷ time last ∷ rest
  pub pieces : p ≡ piece.Times begin last ∷ later
  pub range : AreWrittenTimes begin last

-- ---- rules

-- what the list of a stage is made of
abbrev pub IsOne : Demand → Stage → Text
IsOne demand stage.Years = IsYears demand
IsOne demand stage.MonthDays = IsMonthDays demand
IsOne demand stage.Weeks = IsWeeks demand
IsOne demand stage.Weekdays = IsWeekdays
IsOne demand stage.Times = IsTimes
IsOne demand s = λ p ts later rest. ⊥

-- the parts of a rule come in this order
abbrev pub order : Stage → ℕ
order stage.Front = 0
order stage.Years = 1
order stage.MonthDays = 2
order stage.Weeks = 3
order stage.Colon = 4
order stage.Weekdays = 5
order stage.Times = 6
order stage.Always = 6
order stage.Modifier = 7

abbrev pub precedes : Stage → Stage → Bool
precedes s other = nat_lt (order s) (order other)

-- The list of the stage goes on behind a comma with this token. Years and dates with a year go on with numbers of four digits.
abbrev pub goes_on : Stage → TokenKind → Bool
goes_on stage.Years (token.Number value digits) = digits == 4
goes_on stage.MonthDays (token.Number value digits) = digits == 4
goes_on stage.MonthDays (token.Month m) = true
goes_on stage.Weeks (token.Number value digits) = true
goes_on stage.Weekdays (token.Weekday weekday) = true
goes_on stage.Times (token.Time hour minute) = true
goes_on s kind = false

abbrev pub list_goes_on : Stage → List TokenKind → Bool
list_goes_on s [] = false
list_goes_on s (t ∷ ts) = goes_on s t

-- a number directly before a month and a number, or before a month, a dash and a number: a date or a month with its year
abbrev pub begins_with_date : List TokenKind → Bool
begins_with_date (token.Number value digits ∷ token.Month m ∷ token.Number v d ∷ ts) = true
begins_with_date (token.Number value digits ∷ token.Month m ∷ token.Dash ∷ token.Number v d ∷ ts) = true
begins_with_date ts = false

-- The pieces are the rest of a text, where its rule has come to a stage.
pub data Follow (demand : Demand) : Stage → List Piece → List TokenKind → Type 0 where
  always : (s : Stage) → (p : List Piece) → (ts us : List TokenKind) → s ≡ stage.Front
      → ts ≡ token.Number 24 2 ∷ token.Slash ∷ token.Number 7 1 ∷ us → Follow demand stage.Always p us → Follow demand s p ts
  years : (s : Stage) → (p q later : List Piece) → (ts rest : List TokenKind) → precedes s stage.Years ≡ true
      → begins_with_date ts ≡ false → p ≡ piece.Kind ∷ q → Listed (IsYears demand) q ts later rest
      → Follow demand stage.Years later rest → Follow demand s p ts
  month_days : (s : Stage) → (p q later : List Piece) → (ts rest : List TokenKind) → precedes s stage.MonthDays ≡ true
      → p ≡ piece.Kind ∷ q → Listed (IsMonthDays demand) q ts later rest
      → Follow demand stage.MonthDays later rest → Follow demand s p ts
  weeks : (s : Stage) → (p q later : List Piece) → (ts us rest : List TokenKind) → precedes s stage.Weeks ≡ true
      → ts ≡ token.Week ∷ us → p ≡ piece.Kind ∷ q → Listed (IsWeeks demand) q us later rest
      → Follow demand stage.Weeks later rest → Follow demand s p ts
  colon : (s : Stage) → (p : List Piece) → (ts us : List TokenKind) → precedes stage.Front s ≡ true
      → precedes s stage.Colon ≡ true → ts ≡ token.Colon ∷ us → Follow demand stage.Colon p us → Follow demand s p ts
  weekdays : (s : Stage) → (p q later : List Piece) → (ts rest : List TokenKind) → precedes s stage.Weekdays ≡ true
      → p ≡ piece.Kind ∷ q → Listed IsWeekdays q ts later rest
      → Follow demand stage.Weekdays later rest → Follow demand s p ts
  times : (s : Stage) → (p later : List Piece) → (ts rest : List TokenKind) → precedes s stage.Times ≡ true
      → Listed IsTimes p ts later rest → Follow demand stage.Times later rest → Follow demand s p ts
  opens : (s : Stage) → (p : List Piece) → (ts us : List TokenKind) → precedes s stage.Modifier ≡ true
      → ts ≡ token.Open ∷ us → Follow demand stage.Modifier p us → Follow demand s p ts
  closes : (s : Stage) → (p q : List Piece) → (ts us : List TokenKind) → precedes s stage.Modifier ≡ true
      → ts ≡ token.Closed ∷ us → p ≡ piece.Closed ∷ q → Follow demand stage.Modifier q us → Follow demand s p ts
  ends : (s : Stage) → (p : List Piece) → (ts : List TokenKind) → precedes stage.Front s ≡ true → p ≡ [] → ts ≡ []
      → Follow demand s p ts
  instead : (s : Stage) → (p q : List Piece) → (ts us : List TokenKind) → precedes stage.Front s ≡ true
      → ts ≡ token.Semicolon ∷ us → p ≡ piece.Rule link.Instead ∷ q → Follow demand stage.Front q us → Follow demand s p ts
  also : (s : Stage) → (p q : List Piece) → (ts us : List TokenKind) → precedes stage.Front s ≡ true
      → ts ≡ token.Comma ∷ us → list_goes_on s us ≡ false → p ≡ piece.Rule link.Also ∷ q → Follow demand stage.Front q us
      → Follow demand s p ts

-- The tokens are opening hours with these pieces.
abbrev pub AreHours : List Piece → List TokenKind → Type 0
AreHours p ts = Follow in_full stage.Front p ts

-- Some opening hours begin with these tokens.
pub record CanGoOn (before : List TokenKind) : Type 0 where
  pub p : List Piece
  pub after : List TokenKind
  pub follow : Follow so_far stage.Front p (before ++ after)
