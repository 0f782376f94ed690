-- From every place with numbers in range some text goes on, also with a number or a time where one can come next.
use Rattle.std.proofs.Common.{◌≡◌, ℕ, Bool, true, false, List, [], ◌∷◌, Option, Some, None, refl, sym, ap, subst, arith}
use Rattle.std.specs.Prelude.{◌&&◌, nat_le, IfSome, is_some}
use Rattle.std.proofs.lemmas.Bool.{and_parts, leb-true}
use Rattle.gtd_hours.specs.Ranges.{IsMonth, IsWeekday}
use Rattle.gtd_hours_tokens.specs.declared.token.TokenKind.TheVariants as token
use Rattle.gtd_hours_parts.specs.declared.digits.Digits.{Digits}
use Rattle.gtd_hours_parts.specs.declared.clock.ClockTime.{ClockTime}
use Rattle.gtd_hours_parts.specs.Numbers.{IsPlaceNumber, IsStepNumber, IsWeekNumber, IsYearNumber}
use Rattle.gtd_hours_parts.specs.Times.{IsBegin}
use Rattle.gtd_hours_parts.specs.declared.piece.Offset.{Offset}
use Rattle.gtd_hours_parts.specs.declared.piece.WrittenDate.{WrittenDate}
use Rattle.gtd_hours_parts.specs.declared.piece.LastDate.TheVariants as last_date
use Rattle.gtd_hours_moves.specs.Terms.{TokenKind, Piece}
use Rattle.gtd_hours_moves.specs.declared.stage.Stage.{Stage}
use Rattle.gtd_hours_moves.specs.declared.place.Place.{Place}
use Rattle.gtd_hours_parts.specs.declared.piece.Piece.TheVariants as piece
use Rattle.gtd_hours_moves.specs.declared.stage.Stage.TheVariants as stage
use Rattle.gtd_hours_moves.specs.declared.place.Place.TheVariants as places
use Rattle.gtd_hours_moves.specs.Grammar.{Demand, Follow, IsDates, IsMonthDays, IsPlaces, IsWeekdays, IsWeeks, IsYears}
use Rattle.gtd_hours_moves.specs.Grammar.{by_place}
use Rattle.gtd_hours_moves.specs.Grammar.{date_before, dated, goes_on, may_break_off, months_to, number, precedes}
use Rattle.gtd_hours_moves.specs.Grammar.{so_far, with_years}
use Rattle.gtd_hours_moves.specs.Grammar.{time, unfinished}
use Rattle.gtd_hours_parts.specs.Pieces.{AreBackWeeks, IsDay, IsLastDay, IsRange, IsWrittenDate, final_week, final_year}
use Rattle.gtd_hours_parts.specs.Pieces.{week_one}
use Rattle.gtd_hours_moves.specs.Places.{Behind, BehindDate, FromDate, Rest}
use Rattle.gtd_hours_moves.specs.Places.BehindDate.{day, none}
use Rattle.gtd_hours.specs.declared.hours.Link.TheVariants as link
use Rattle.gtd_hours_moves.specs.Runs.{is_judged, is_step}
use Rattle.gtd_hours_moves.specs.Sound.{IsLastYear, IsPlace, Reaches, takes_number, takes_time}
use Rattle.gtd_hours_grammar.proofs.EndingsOfParts.{a_date, a_month, a_month_day, a_year, after_number, another, behind}
use Rattle.gtd_hours_grammar.proofs.EndingsOfParts.{bracket_closed, dated_after, digit_one, done, first_day, first_of}
use Rattle.gtd_hours_grammar.proofs.EndingsOfParts.{first_of-is, in_brackets, midnight, midnight-is, opened, other_rule}
use Rattle.gtd_hours_grammar.proofs.EndingsOfParts.{some_date, some_date-is, some_times, some_year, some_year-is, then}
use Rattle.gtd_hours_grammar.proofs.EndingsOfParts.{dates_then, no_offset, times_after, to_same}

-- a text that goes on from a place
pub record Ending (at : Place) : Type 0 where
  pub p : List Piece
  pub ts : List TokenKind
  pub rest : Rest so_far at p ts

-- one that goes on with a number, which need only fit by its place
pub record NumberEnding (at : Place) : Type 0 where
  pub v : ℕ
  pub d : ℕ
  pub p : List Piece
  pub ts : List TokenKind
  pub rest : Rest by_place at p (token.Number v d ∷ ts)

-- one that goes on with a time
pub record TimeEnding (at : Place) : Type 0 where
  pub h : ℕ
  pub m : ℕ
  pub p : List Piece
  pub ts : List TokenKind
  pub rest : Rest by_place at p (token.Time h m ∷ ts)

-- a date with a year, behind a part of a rule
abbrev pub dated_next : List Piece
dated_next = piece.Kind ∷ piece.Dates some_date None ∷ []

abbrev pub dated_tokens : List TokenKind
dated_tokens = token.Number 2000 4 ∷ after_number

dated_on : (at : Place) (p : List Piece) → Rest by_place at p dated_tokens → NumberEnding at
dated_on at p rest = record { v = 2000; d = 4; p = p; ts = after_number; rest = rest }

-- times, behind a part of a rule
abbrev pub timed_next : List Piece
timed_next = piece.Times midnight midnight ∷ []

abbrev pub timed_tokens : List TokenKind
timed_tokens = token.Time 0 0 ∷ to_same midnight

timed_on : (at : Place) (p : List Piece) → Rest by_place at p timed_tokens → TimeEnding at
timed_on at p rest = record { h = 0; m = 0; p = p; ts = to_same midnight; rest = rest }

-- ---- a part of a rule is complete at a place, and the text goes on behind it

year_then : (d : Demand) (n : Digits) (p : List Piece) (ts : List TokenKind) → IsYearNumber n → Follow d stage.Years p ts
    → Rest d (places.ListedYear n) (piece.Years n None None ∷ p) ts
year_then d n p ts h follow =
    then d stage.Years (piece.Years n None None ∷ p) p (number n ∷ ts) ts (IsYears.one n refl refl h) follow

year_range_then : (d : Demand) (a b : Digits) (p : List Piece) (ts : List TokenKind) → IsRange IsYearNumber a b
    → Follow d stage.Years p ts → Rest d (places.YearRange a b) (piece.Years a (Some b) None ∷ p) ts
year_range_then d a b p ts h follow =
    then d stage.Years (piece.Years a (Some b) None ∷ p) p (number a ∷ token.Dash ∷ number b ∷ ts) ts
    (IsYears.range a b refl refl h) follow

month_then : (d : Demand) (m : ℕ) (p : List Piece) (ts : List TokenKind) → IsMonth m → Follow d stage.MonthDays p ts
    → Rest d (places.Month m) (piece.Months m None ∷ p) ts
month_then d m p ts h follow =
    then d stage.MonthDays (piece.Months m None ∷ p) p (token.Month m ∷ ts) ts (a_month d m p ts h) follow

later_month : (d : Demand) (m : ℕ) (p : List Piece) (ts : List TokenKind) → IsMonth m → Follow d stage.MonthDays p ts
    → Rest d (places.MonthAfterYear m) (piece.Kind ∷ piece.Months m None ∷ p) ts
later_month d m p ts h follow =
    a_month_day d stage.Years (piece.Months m None ∷ p) p (token.Month m ∷ ts) ts refl (a_month d m p ts h) follow

date_then : (d : Demand) (x : WrittenDate) (p : List Piece) (ts : List TokenKind) → IsWrittenDate x
    → Follow d stage.MonthDays p ts → Rest d (places.Date x) (piece.Dates x None ∷ p) ts
date_then d x p ts h follow =
    dates_then d x (piece.Dates x None ∷ p) p ts ts (IsDates.one x None (piece.Dates x None ∷ p) ts refl refl (record {})) follow

week_then : (d : Demand) (n : Digits) (p : List Piece) (ts : List TokenKind) → IsWeekNumber n → Follow d stage.Weeks p ts
    → Rest d (places.Week n) (piece.Weeks n None None ∷ p) ts
week_then d n p ts h follow =
    then d stage.Weeks (piece.Weeks n None None ∷ p) p (number n ∷ ts) ts (IsWeeks.one n refl refl h) follow

week_range_then : (d : Demand) (a b : Digits) (p : List Piece) (ts : List TokenKind) → IsRange IsWeekNumber a b
    → Follow d stage.Weeks p ts → Rest d (places.WeekRange a b) (piece.Weeks a (Some b) None ∷ p) ts
week_range_then d a b p ts h follow =
    then d stage.Weeks (piece.Weeks a (Some b) None ∷ p) p (number a ∷ token.Dash ∷ number b ∷ ts) ts
    (IsWeeks.range a b refl refl h) follow

week_back_then : (d : Demand) (a b : Digits) (p : List Piece) (ts : List TokenKind) → AreBackWeeks a b
    → Follow d stage.Weeks p ts → Rest d (places.WeekBack a b)
    (piece.Weeks a (Some final_week) None ∷ piece.Weeks week_one (Some b) None ∷ p) ts
week_back_then d a b p ts h follow =
    then d stage.Weeks (piece.Weeks a (Some final_week) None ∷ piece.Weeks week_one (Some b) None ∷ p) p
    (number a ∷ token.Dash ∷ number b ∷ ts) ts (IsWeeks.back a b refl refl h) follow

weekday_then : (d : Demand) (k : ℕ) (p : List Piece) (ts : List TokenKind) → IsWeekday k → Follow d stage.Weekdays p ts
    → Rest d (places.Weekday k) (piece.Weekdays k None ∷ p) ts
weekday_then d k p ts h follow =
    then d stage.Weekdays (piece.Weekdays k None ∷ p) p (token.Weekday k ∷ ts) ts (IsWeekdays.one k refl refl h) follow

-- ---- where one number or time completes a part, whatever is demanded

to_always : (d : Demand) → Rest d places.TwentyFourSlash [] (token.Number 7 1 ∷ [])
to_always d =
    Follow.always stage.Front [] (token.Number 24 2 ∷ token.Slash ∷ token.Number 7 1 ∷ []) [] refl refl
    (done d stage.Always refl)

to_year : (d : Demand) (n : Digits) → IsYearNumber n
    → Rest d (places.YearDash n) (piece.Years n (Some n) None ∷ []) (number n ∷ [])
to_year d n h =
    then d stage.Years (piece.Years n (Some n) None ∷ []) [] (number n ∷ token.Dash ∷ number n ∷ []) []
    (IsYears.range n n refl refl (h, h, omega arith)) (done d stage.Years refl)

to_step : (d : Demand) (a b : Digits) → IsRange IsYearNumber a b
    → Rest d (places.YearStep a b) (piece.Years a (Some b) (Some digit_one) ∷ []) (token.Number 1 1 ∷ [])
to_step d a b h =
    then d stage.Years (piece.Years a (Some b) (Some digit_one) ∷ [])
    [] (number a ∷ token.Dash ∷ number b ∷ token.Slash ∷ token.Number 1 1 ∷ []) []
    (IsYears.every a b digit_one refl refl h (omega arith, omega arith, omega arith, omega arith)) (done d stage.Years refl)

abbrev pub digit_eight : Digits
digit_eight = record { value = 8; count = 1 }

-- each eighth year
to_eighth : (d : Demand) (n : Digits) → IsYearNumber n
    → Rest d (places.YearSlash n) (piece.Years n (Some final_year) (Some digit_eight) ∷ []) (token.Number 8 1 ∷ [])
to_eighth d n h =
    then d stage.Years (piece.Years n (Some final_year) (Some digit_eight) ∷ [])
    [] (number n ∷ token.Slash ∷ token.Number 8 1 ∷ []) []
    (IsYears.every_on n digit_eight refl refl h
    ((omega arith, omega arith, omega arith, omega arith), omega (arith, h.1))) (done d stage.Years refl)

to_week : (d : Demand) (n : Digits) → IsWeekNumber n
    → Rest d (places.WeekDash n) (piece.Weeks n (Some n) None ∷ []) (number n ∷ [])
to_week d n h =
    then d stage.Weeks (piece.Weeks n (Some n) None ∷ []) [] (number n ∷ token.Dash ∷ number n ∷ []) []
    (IsWeeks.range n n refl refl (h, h, omega arith)) (done d stage.Weeks refl)

to_week_step : (d : Demand) (a b : Digits) → IsRange IsWeekNumber a b
    → Rest d (places.WeekStep a b) (piece.Weeks a (Some b) (Some digit_one) ∷ []) (token.Number 1 1 ∷ [])
to_week_step d a b h =
    then d stage.Weeks (piece.Weeks a (Some b) (Some digit_one) ∷ [])
    [] (number a ∷ token.Dash ∷ number b ∷ token.Slash ∷ token.Number 1 1 ∷ []) []
    (IsWeeks.every a b digit_one refl refl h (omega arith, omega arith, omega arith, omega arith)) (done d stage.Weeks refl)

first_week : (d : Demand) → Rest d places.WeekWord (piece.Weeks digit_one None None ∷ []) (token.Number 1 1 ∷ [])
first_week d = week_then d digit_one [] [] (omega arith, omega arith, omega arith, omega arith) (done d stage.Weeks refl)

-- the first day of the month
to_day_of : (d : Demand) (n : Digits) (m : ℕ) → IsYearNumber n → IsMonth m
    → Rest d (places.DateYearMonth n m) (piece.Dates (first_of (Some n) m) None ∷ []) (token.Number 1 1 ∷ [])
to_day_of d n m y h =
    let x = first_of (Some n) m in
    then d stage.MonthDays (piece.Dates x None ∷ []) [] (date_before x []) [] (a_date d x [] [] (first_of-is (Some n) m y h))
    (done d stage.MonthDays refl)

to_day_of_year : (d : Demand) (n : Digits) (m : ℕ) → IsYearNumber n → IsMonth m
    → Rest d (places.YearMonth n m) (piece.Dates (first_of (Some n) m) None ∷ []) (token.Number 1 1 ∷ [])
to_day_of_year d n m y h =
    let x = first_of (Some n) m in
    a_month_day d stage.Front (piece.Dates x None ∷ []) [] (date_before x []) [] refl
    (a_date d x [] [] (first_of-is (Some n) m y h)) (done d stage.MonthDays refl)

to_day_of_month : (d : Demand) (m : ℕ) → IsMonth m
    → Rest d (places.Month m) (piece.Dates (first_of None m) None ∷ []) (token.Number 1 1 ∷ [])
to_day_of_month d m h =
    let x = first_of None m in
    then d stage.MonthDays (piece.Dates x None ∷ []) [] (date_before x []) [] (a_date d x [] [] (first_of-is None m tt h))
    (done d stage.MonthDays refl)

to_day_after_year : (d : Demand) (m : ℕ) → IsMonth m
    → Rest d (places.MonthAfterYear m) (piece.Kind ∷ piece.Dates (first_of None m) None ∷ []) (token.Number 1 1 ∷ [])
to_day_after_year d m h =
    let x = first_of None m in
    a_month_day d stage.Years (piece.Dates x None ∷ []) [] (date_before x []) [] refl
    (a_date d x [] [] (first_of-is None m tt h)) (done d stage.MonthDays refl)

to_month : (d : Demand) (m : ℕ) → IsMonth m
    → Rest d (places.MonthDash m) (piece.Months m (Some m) ∷ []) (token.Month m ∷ [])
to_month d m h =
    then d stage.MonthDays (piece.Months m (Some m) ∷ []) [] (token.Month m ∷ token.Dash ∷ token.Month m ∷ []) []
    (IsMonthDays.months m m refl refl h h) (done d stage.MonthDays refl)

to_weekday : (d : Demand) (k : ℕ) → IsWeekday k
    → Rest d (places.WeekdayDash k) (piece.Weekdays k (Some k) ∷ []) (token.Weekday k ∷ [])
to_weekday d k h =
    then d stage.Weekdays (piece.Weekdays k (Some k) ∷ []) [] (token.Weekday k ∷ token.Dash ∷ token.Weekday k ∷ []) []
    (IsWeekdays.range k k refl refl h h) (done d stage.Weekdays refl)

place_one : IsPlaceNumber digit_one
place_one = (refl, omega arith, omega arith)

first_place : (d : Demand) (k r : ℕ)
    → Rest d (places.Bracket k r) (piece.Places k digit_one None ∷ piece.PlacesEnd None ∷ [])
    (token.Number 1 1 ∷ token.CloseBracket ∷ [])
first_place d k r =
    in_brackets d k r (piece.Places k digit_one None ∷ piece.PlacesEnd None ∷ []) [] (token.Number 1 1 ∷ token.CloseBracket ∷ [])
    [] (IsPlaces.one digit_one refl refl place_one (record {})) (done d stage.Weekdays refl)

one_place : (d : Demand) (k : ℕ) (n : Digits) (r : ℕ) → IsPlaceNumber n
    → Rest d (places.Nth k n r) (piece.Places k n None ∷ piece.PlacesEnd None ∷ []) (token.CloseBracket ∷ [])
one_place d k n r h =
    in_brackets d k r (piece.Places k n None ∷ piece.PlacesEnd None ∷ []) [] (number n ∷ token.CloseBracket ∷ []) []
    (IsPlaces.one n refl refl h (record {})) (done d stage.Weekdays refl)

last_place : (d : Demand) (k r : ℕ)
    → Rest d (places.BracketDash k r) (piece.PlaceBack k digit_one ∷ piece.PlacesEnd None ∷ [])
    (token.Number 1 1 ∷ token.CloseBracket ∷ [])
last_place d k r =
    in_brackets d k r (piece.PlaceBack k digit_one ∷ piece.PlacesEnd None ∷ [])
    [] (token.Dash ∷ token.Number 1 1 ∷ token.CloseBracket ∷ []) []
    (IsPlaces.back digit_one refl refl place_one (record {})) (done d stage.Weekdays refl)

to_place : (d : Demand) (k : ℕ) (n : Digits) (r : ℕ) → IsPlaceNumber n
    → Rest d (places.NthDash k n r) (piece.Places k n (Some n) ∷ piece.PlacesEnd None ∷ []) (number n ∷ token.CloseBracket ∷ [])
to_place d k n r h =
    in_brackets d k r (piece.Places k n (Some n) ∷ piece.PlacesEnd None ∷ [])
    [] (number n ∷ token.Dash ∷ number n ∷ token.CloseBracket ∷ []) []
    (IsPlaces.range n n refl refl (h, h, omega arith) (record {})) (done d stage.Weekdays refl)

-- one day, behind the sign of an offset
abbrev one_day : Bool → Offset
one_day before = record { is_before = before; days = digit_one }

to_day : (d : Demand) (before : Bool) (r : ℕ) → Reaches r before 1
    → Rest d (places.OffsetSign before r) (piece.PlacesEnd (Some (one_day before)) ∷ []) (token.Number 1 1 ∷ token.Day ∷ [])
to_day d before r h = record {
  later = [];
  rest = [];
  offset = Some (one_day before);
  is = (omega arith, omega arith, omega arith, omega arith);
  reaches = h;
  pieces = refl;
  tokens = refl;
  behind = behind d stage.Weekdays [] [] (done d stage.Weekdays refl);
}

days_word : (d : Demand) (o : Offset) → Rest d (places.OffsetNumber o) (piece.PlacesEnd (Some o) ∷ []) (token.Day ∷ [])
days_word d o = record {
  later = [];
  rest = [];
  pieces = refl;
  tokens = refl;
  behind = behind d stage.Weekdays [] [] (done d stage.Weekdays refl);
}

to_time : (d : Demand) (t : ClockTime) → IsBegin t → Rest d (places.TimeDash t) (piece.Times t t ∷ []) (time t ∷ [])
to_time d t h =
    then d stage.Times (piece.Times t t ∷ []) [] (time t ∷ to_same t) [] (some_times t h) (done d stage.Times refl)

-- ---- the last date of a range

month_in : (year : Option Digits) (m : ℕ) (n : Digits) → IsDay year m n → IsMonth m
month_in None m n h = h.1.0
month_in (Some y) m n h = h.1.1.0

-- a text that breaks off before the day of a last date
breaks_off : (d : Demand) (x : WrittenDate) (year : Option Digits) (m : Option ℕ) → may_break_off d ≡ true
    → is_some x.year ≡ true → IfSome year IsYearNumber → IfSome m IsMonth
    → FromDate d x [] (token.Dash ∷ unfinished year m)
breaks_off d x year m may dated y k =
    dates_then d x [] [] (token.Dash ∷ unfinished year m) []
    (IsDates.cut x year m [] (token.Dash ∷ unfinished year m) may dated y k refl refl refl) (done d stage.MonthDays refl)

-- after a date without a year the first day of the month, or of another one
to_last : (x : WrittenDate) (m : ℕ) → x.year ≡ None → IsMonth m → IsLastDay x.year x.month x.day None m digit_one
to_last x m e h = subst (λ (y : Option Digits). IsLastDay y x.month x.day None m digit_one) (sym e) (first_day m h)

to_last_day : (d : Demand) (x : WrittenDate) → x.year ≡ None → IsWrittenDate x
    → Rest d (places.DateDash x) (piece.Dates x (Some (last_date.Day digit_one)) ∷ []) (token.Number 1 1 ∷ [])
to_last_day d x e h =
    dates_then d x (piece.Dates x (Some (last_date.Day digit_one)) ∷ []) [] (token.Dash ∷ token.Number 1 1 ∷ []) []
    (IsDates.one x (Some (last_date.Day digit_one)) (piece.Dates x (Some (last_date.Day digit_one)) ∷ [])
    (token.Dash ∷ token.Number 1 1 ∷ []) refl refl (to_last x x.month e (month_in x.year x.month x.day h.1)))
    (done d stage.MonthDays refl)

to_last_date : (d : Demand) (x : WrittenDate) (m : ℕ) → x.year ≡ None → IsWrittenDate x → IsMonth m
    → Rest d (places.DateDashMonth x None m) (piece.Dates x (Some (last_date.Date (first_of None m))) ∷ [])
    (token.Number 1 1 ∷ [])
to_last_date d x m e h k =
    dates_then d x (piece.Dates x (Some (last_date.Date (first_of None m))) ∷ []) []
    (token.Dash ∷ token.Month m ∷ token.Number 1 1 ∷ []) []
    (IsDates.one x (Some (last_date.Date (first_of None m))) (piece.Dates x (Some (last_date.Date (first_of None m))) ∷ [])
    (token.Dash ∷ token.Month m ∷ token.Number 1 1 ∷ []) refl refl (to_last x m e k)) (done d stage.MonthDays refl)

-- by its place any day fits
to_any_day : (x : WrittenDate) (year : Option Digits) (m : ℕ) → is_some x.year ≡ true → IsWrittenDate x
    → IfSome year IsYearNumber → IsMonth m → Rest by_place (places.DateDashMonth x year m) [] (token.Number 1 1 ∷ [])
to_any_day x year m dated h y k =
    dates_then by_place x [] [] (token.Dash ∷ date_before (first_of year m) []) []
    (IsDates.any_day x (first_of year m) [] (token.Dash ∷ date_before (first_of year m) []) refl dated y k refl refl refl)
    (done by_place stage.MonthDays refl)

month_breaks_off : (d : Demand) (x : WrittenDate) (year : Option Digits) (m : ℕ) → may_break_off d ≡ true
    → is_some x.year ≡ true → IsWrittenDate x → IfSome year IsYearNumber → IsMonth m
    → Rest d (places.DateDashMonth x year m) [] []
month_breaks_off d x None m may dated h y k = breaks_off d x None (Some m) may dated y k
month_breaks_off d x (Some n) m may dated h y k = breaks_off d x (Some n) (Some m) may dated y k

-- the place after the first date and the dash
dash_ending : (x : WrittenDate) (year : Option Digits) → x.year ≡ year → IsWrittenDate x → Ending (places.DateDash x)
dash_ending x None e h = record { p = _; ts = _; rest = to_last_day so_far x e h }
dash_ending x (Some n) e h = record { p = _; ts = _; rest = breaks_off so_far x None None refl (ap is_some e) tt tt }

dash_number : (x : WrittenDate) (year : Option Digits) → x.year ≡ year → IsWrittenDate x → NumberEnding (places.DateDash x)
dash_number x None e h = record { v = 1; d = 1; p = _; ts = _; rest = to_last_day by_place x e h }
dash_number x (Some n) e h = record {
  v = 2000;
  d = 4;
  p = _;
  ts = [];
  rest = breaks_off by_place x (Some some_year) None refl (ap is_some e) some_year-is tt;
}

-- the place after the month of the last date
dash_month_ending : (x : WrittenDate) (written year : Option Digits) (m : ℕ) → x.year ≡ written → IsWrittenDate x
    → IsLastYear x year → IsMonth m → Ending (places.DateDashMonth x year m)
dash_month_ending x (Some n) year m e h y k =
    record { p = _; ts = _; rest = month_breaks_off so_far x year m refl (ap is_some e) h y.other k }
dash_month_ending x None None m e h y k = record { p = _; ts = _; rest = to_last_date so_far x m e h k }
dash_month_ending x None (Some l) m e h y k =
    let s = y.one refl in
    absurd cc

dash_month_number : (x : WrittenDate) (written year : Option Digits) (m : ℕ) → x.year ≡ written → IsWrittenDate x
    → IsLastYear x year → IsMonth m → NumberEnding (places.DateDashMonth x year m)
dash_month_number x (Some n) year m e h y k =
    record { v = 1; d = 1; p = _; ts = _; rest = to_any_day x year m (ap is_some e) h y.other k }
dash_month_number x None None m e h y k = record { v = 1; d = 1; p = _; ts = _; rest = to_last_date by_place x m e h k }
dash_month_number x None (Some l) m e h y k =
    let s = y.one refl in
    absurd cc

-- ---- months of years

-- a text that breaks off before the last month
months_cut : (d : Demand) (a b : Digits) (m : ℕ) → may_break_off d ≡ true → IsRange IsYearNumber a b → IsMonth m
    → IsMonthDays d [] (months_to a m b []) [] []
months_cut d a b m may range h = IsMonthDays.cut a b m may range h refl refl refl

to_months_year : (d : Demand) (n : Digits) (m : ℕ) → may_break_off d ≡ true → IsYearNumber n → IsMonth m
    → Rest d (places.DateYearMonthDash n m) [] (number n ∷ [])
to_months_year d n m may y h =
    then d stage.MonthDays [] [] (months_to n m n []) [] (months_cut d n n m may (y, y, omega arith) h)
    (done d stage.MonthDays refl)

to_first_months_year : (d : Demand) (n : Digits) (m : ℕ) → may_break_off d ≡ true → IsYearNumber n → IsMonth m
    → Rest d (places.YearMonthDash n m) [] (number n ∷ [])
to_first_months_year d n m may y h =
    a_month_day d stage.Front [] [] (months_to n m n []) [] refl (months_cut d n n m may (y, y, omega arith) h)
    (done d stage.MonthDays refl)

to_month_after_year : (d : Demand) (m : ℕ) → IsMonth m
    → Rest d (places.MonthDashAfterYear m) (piece.Kind ∷ piece.Months m (Some m) ∷ []) (token.Month m ∷ [])
to_month_after_year d m h =
    a_month_day d stage.Years (piece.Months m (Some m) ∷ []) [] (token.Month m ∷ token.Dash ∷ token.Month m ∷ []) [] refl
    (IsMonthDays.months m m refl refl h h) (done d stage.MonthDays refl)

-- ---- commas

no_open : (s : Stage) → goes_on s token.Open ≡ false
no_open stage.Front = refl
no_open stage.Years = refl
no_open stage.MonthDays = refl
no_open stage.Weeks = refl
no_open stage.Colon = refl
no_open stage.Weekdays = refl
no_open stage.Times = refl
no_open stage.Always = refl
no_open stage.Modifier = refl

comma_ending : (s : Stage) → precedes stage.Front s ≡ true → Ending (places.Comma s)
comma_ending s e =
    record { p = _; ts = _; rest = other_rule so_far s [] (token.Open ∷ []) e (no_open s) (opened so_far) }

-- another rule begins with a year
other_year : (s : Stage) → precedes stage.Front s ≡ true → goes_on s (token.Number 2000 4) ≡ false
    → NumberEnding (places.Comma s)
other_year s e no_more = record {
  v = 2000;
  d = 4;
  p = _;
  ts = [];
  rest =
      other_rule by_place s (piece.Kind ∷ piece.Years some_year None None ∷ []) (token.Number 2000 4 ∷ []) e no_more
      (a_year by_place some_year [] [] some_year-is refl (done by_place stage.Years refl));
}

comma_number : (s : Stage) → precedes stage.Front s ≡ true → NumberEnding (places.Comma s)
comma_number stage.Front e = absurd cc
comma_number stage.Years e = record {
  v = 2000;
  d = 4;
  p = _;
  ts = [];
  rest =
      another by_place stage.Years (piece.Years some_year None None ∷ []) [] (token.Number 2000 4 ∷ []) []
      (IsYears.one some_year refl refl some_year-is) (done by_place stage.Years refl);
}
comma_number stage.MonthDays e =
    let one = a_date by_place some_date [] [] some_date-is in
    dated_on (places.Comma stage.MonthDays) _
    (another by_place stage.MonthDays (piece.Dates some_date None ∷ []) [] dated_tokens [] one
    (done by_place stage.MonthDays refl))
comma_number stage.Weeks e = record {
  v = 1;
  d = 1;
  p = _;
  ts = [];
  rest =
      another by_place stage.Weeks (piece.Weeks digit_one None None ∷ []) [] (token.Number 1 1 ∷ []) []
      (IsWeeks.one digit_one refl refl (omega arith, omega arith, omega arith, omega arith)) (done by_place stage.Weeks refl);
}
comma_number stage.Colon e = other_year stage.Colon e refl
comma_number stage.Weekdays e = other_year stage.Weekdays e refl
comma_number stage.Times e = other_year stage.Times e refl
comma_number stage.Always e = other_year stage.Always e refl
comma_number stage.Modifier e = other_year stage.Modifier e refl

-- another rule begins with a time
other_time : (s : Stage) → precedes stage.Front s ≡ true → goes_on s (token.Time 0 0) ≡ false → TimeEnding (places.Comma s)
other_time s e no_more =
    timed_on (places.Comma s) _
    (other_rule by_place s timed_next timed_tokens e no_more (times_after by_place stage.Front refl))

comma_time : (s : Stage) → precedes stage.Front s ≡ true → TimeEnding (places.Comma s)
comma_time stage.Front e = absurd cc
comma_time stage.Times e =
    timed_on (places.Comma stage.Times) _
    (another by_place stage.Times timed_next [] timed_tokens [] (some_times midnight midnight-is)
    (done by_place stage.Times refl))
comma_time stage.Years e = other_time stage.Years e refl
comma_time stage.MonthDays e = other_time stage.MonthDays e refl
comma_time stage.Weeks e = other_time stage.Weeks e refl
comma_time stage.Colon e = other_time stage.Colon e refl
comma_time stage.Weekdays e = other_time stage.Weekdays e refl
comma_time stage.Always e = other_time stage.Always e refl
comma_time stage.Modifier e = other_time stage.Modifier e refl

-- ---- behind a date

behind_date : (d : Demand) (year : Option Digits) (m : ℕ) (p : List Piece) (ts : List TokenKind)
    → Behind d stage.MonthDays p ts → BehindDate d year m p ts
behind_date d year m p ts h = none h

-- a day of the month
comma_day : (d : Demand) (year : Option Digits) (m : ℕ) → IfSome year IsYearNumber → IsMonth m
    → Rest d (places.CommaDate year m) (piece.Dates (first_of year m) None ∷ []) (token.Number 1 1 ∷ [])
comma_day d year m y h =
    day digit_one [] refl (first_of-is year m y h).1 (date_then d (first_of year m) [] [] (first_of-is year m y h)
    (done d stage.MonthDays refl))

listed_then : (d : Demand) (x : WrittenDate) (p : List Piece) (ts : List TokenKind) → IsWrittenDate x
    → Follow d stage.MonthDays p ts → Rest d (places.ListedDay x) (piece.Dates x None ∷ p) ts
listed_then d x p ts h follow = day x.day ts refl h.1 (date_then d x p ts h follow)

-- ---- a token that is judged by its place

pub record JudgedEnding (demand : Demand) (at : Place) (t : TokenKind) : Type 0 where
  pub p : List Piece
  pub rest : Rest demand at p (t ∷ [])

-- the step of weeks that go back
pub slash_ending : (at : Place) → IsPlace at → is_judged at token.Slash by_place ≡ true → JudgedEnding by_place at token.Slash
slash_ending (places.WeekBack a b) h e = record {
  p = [];
  rest =
      then by_place stage.Weeks [] [] (number a ∷ token.Dash ∷ number b ∷ token.Slash ∷ []) []
      (IsWeeks.back_step a b refl refl refl refl h) (done by_place stage.Weeks refl);
}
slash_ending at h e = absurd cc

-- a last month with a year
pub month_ending : (at : Place) (m : ℕ) → IsPlace at → is_judged at (token.Month m) by_place ≡ true
    → JudgedEnding by_place at (token.Month m)
month_ending (places.MonthsYear a k b) m h e = record {
  p = [];
  rest =
      then by_place stage.MonthDays [] [] (months_to a k b (token.Month m ∷ [])) []
      (IsMonthDays.any_month a b k m refl h.one h.other refl refl refl) (done by_place stage.MonthDays refl);
}
month_ending at m h e = absurd cc

-- a step of more years than a domain holds
step_of : (v d : ℕ) → is_step v d ≡ true → IsStepNumber (record { value = v; count = d })
step_of v d e =
    let one = and_parts (nat_le 1 d && nat_le d 4 && nat_le 1 v) (nat_le v 9999) e in
    let two = and_parts (nat_le 1 d && nat_le d 4) (nat_le 1 v) one.0 in
    let three = and_parts (nat_le 1 d) (nat_le d 4) two.0 in
    (leb-true 1 d three.0, leb-true d 4 three.1, leb-true 1 v two.1, leb-true v 9999 one.1)

pub years_ending : (at : Place) (v d : ℕ) → IsPlace at → is_judged at (token.Number v d) with_years ≡ true
    → JudgedEnding with_years at (token.Number v d)
years_ending (places.YearSlash n) v d h e = record {
  p = [];
  rest =
      then with_years stage.Years [] [] (number n ∷ token.Slash ∷ token.Number v d ∷ []) []
      (IsYears.many n (record { value = v; count = d }) refl refl refl refl h (step_of v d e)) (done with_years stage.Years refl);
}
years_ending at v d h e = absurd cc

-- ---- every place

pub ending : (at : Place) → IsPlace at → Ending at
ending places.Front h = record { p = _; ts = _; rest = opened so_far }
ending places.TwentyFour h = record { p = []; ts = token.Slash ∷ token.Number 7 1 ∷ []; rest = to_always so_far }
ending places.TwentyFourSlash h = record { p = _; ts = _; rest = to_always so_far }
ending (places.Year n) h = record { p = _; ts = []; rest = a_year so_far n [] [] h refl (done so_far stage.Years refl) }
ending (places.YearMonth n m) h = record {
  p = _;
  ts = [];
  rest =
      a_year so_far n (piece.Kind ∷ piece.Months m None ∷ []) (token.Month m ∷ []) h.one refl
      (later_month so_far m [] [] h.other (done so_far stage.MonthDays refl));
}
ending (places.MonthAfterYear m) h =
    record { p = _; ts = []; rest = later_month so_far m [] [] h (done so_far stage.MonthDays refl) }
ending (places.YearMonthDash n m) h =
    record { p = _; ts = _; rest = to_first_months_year so_far n m refl h.one h.other }
ending (places.MonthDashAfterYear m) h = record { p = _; ts = _; rest = to_month_after_year so_far m h }
ending (places.ListedYear n) h = record { p = _; ts = []; rest = year_then so_far n [] [] h (done so_far stage.Years refl) }
ending (places.YearDash n) h = record { p = _; ts = _; rest = to_year so_far n h }
ending (places.YearRange a b) h =
    record { p = _; ts = []; rest = year_range_then so_far a b [] [] h (done so_far stage.Years refl) }
ending (places.YearStep a b) h = record { p = _; ts = _; rest = to_step so_far a b h }
ending (places.YearSlash n) h = record { p = _; ts = _; rest = to_eighth so_far n h }
ending (places.DateYear n) h = record {
  p = _;
  ts = after_number;
  rest = to_day_of so_far n 1 h (omega arith, omega arith);
}
ending (places.DateYearMonth n m) h = record { p = _; ts = _; rest = to_day_of so_far n m h.one h.other }
ending (places.DateYearMonthDash n m) h = record { p = _; ts = _; rest = to_months_year so_far n m refl h.one h.other }
ending (places.MonthsYear a m b) h = record {
  p = _;
  ts = [];
  rest =
      then so_far stage.MonthDays [] [] (months_to a m b []) [] (months_cut so_far a b m refl h.one h.other)
      (done so_far stage.MonthDays refl);
}
ending (places.Month m) h = record { p = _; ts = []; rest = month_then so_far m [] [] h (done so_far stage.MonthDays refl) }
ending (places.MonthDash m) h = record { p = _; ts = _; rest = to_month so_far m h }
ending (places.Date x) h = record { p = _; ts = []; rest = date_then so_far x [] [] h (done so_far stage.MonthDays refl) }
ending (places.ListedDay x) h = record { p = _; ts = []; rest = listed_then so_far x [] [] h (done so_far stage.MonthDays refl) }
ending (places.DateDash x) h = dash_ending x x.year refl h
ending (places.DateDashYear x n) h =
    record { p = _; ts = []; rest = breaks_off so_far x (Some n) None refl h.other.one h.other.other tt }
ending (places.DateDashMonth x year m) h = dash_month_ending x x.year year m refl h.one h.other.one h.other.other
ending places.WeekWord h = record { p = _; ts = _; rest = first_week so_far }
ending (places.Week n) h = record { p = _; ts = []; rest = week_then so_far n [] [] h (done so_far stage.Weeks refl) }
ending (places.WeekDash n) h = record { p = _; ts = _; rest = to_week so_far n h }
ending (places.WeekRange a b) h =
    record { p = _; ts = []; rest = week_range_then so_far a b [] [] h (done so_far stage.Weeks refl) }
ending (places.WeekStep a b) h = record { p = _; ts = _; rest = to_week_step so_far a b h }
ending (places.WeekBack a b) h =
    record { p = _; ts = []; rest = week_back_then so_far a b [] [] h (done so_far stage.Weeks refl) }
ending (places.WeekAgain a b) h =
    record { p = _; ts = []; rest = week_back_then so_far a b [] [] h (done so_far stage.Weeks refl) }
ending (places.Weekday k) h =
    record { p = _; ts = []; rest = weekday_then so_far k [] [] h (done so_far stage.Weekdays refl) }
ending (places.WeekdayDash k) h = record { p = _; ts = _; rest = to_weekday so_far k h }
ending (places.Bracket k r) h = record { p = _; ts = _; rest = first_place so_far k r }
ending (places.BracketDash k r) h = record { p = _; ts = _; rest = last_place so_far k r }
ending (places.Nth k n r) h = record { p = _; ts = token.CloseBracket ∷ []; rest = one_place so_far k n r h.other }
ending (places.NthDash k n r) h = record { p = _; ts = _; rest = to_place so_far k n r h.other }
ending (places.BracketEnd k r) h =
    record { p = _; ts = _; rest = bracket_closed so_far k r [] [] (done so_far stage.Weekdays refl) }
ending (places.PlacesEnd r) h =
    record { p = _; ts = []; rest = no_offset so_far r [] [] (done so_far stage.Weekdays refl) }
ending (places.OffsetSign before r) h =
    record { p = _; ts = token.Number 1 1 ∷ token.Day ∷ []; rest = to_day so_far before r h }
ending (places.OffsetNumber o) h = record { p = _; ts = _; rest = days_word so_far o }
ending (places.Time t) h = record { p = _; ts = to_same t; rest = to_time so_far t h }
ending (places.TimeDash t) h = record { p = _; ts = _; rest = to_time so_far t h }
ending (places.AfterDate y m) h =
    let follow = done so_far stage.MonthDays refl in
    record { p = _; ts = _; rest = behind_date so_far y m [] [] (behind so_far stage.MonthDays [] [] follow) }
ending (places.CommaDate y m) h = record { p = _; ts = _; rest = comma_day so_far y m h.one h.other }
ending (places.After s) h = record { p = _; ts = _; rest = behind so_far s [] [] (done so_far s h) }
ending (places.Comma s) h = comma_ending s h

pub number_ending : (at : Place) → IsPlace at → takes_number at ≡ true → NumberEnding at
number_ending places.Front h e = dated_on places.Front _ (dated_after by_place stage.Front refl)
number_ending places.TwentyFour h e = absurd cc
number_ending places.TwentyFourSlash h e = record { v = 7; d = 1; p = _; ts = []; rest = to_always by_place }
number_ending (places.Year n) h e =
    dated_on (places.Year n) _ (a_year by_place n dated_next dated_tokens h refl (dated_after by_place stage.Years refl))
number_ending (places.YearMonth n m) h e =
    record { v = 1; d = 1; p = _; ts = []; rest = to_day_of_year by_place n m h.one h.other }
number_ending (places.MonthAfterYear m) h e = record { v = 1; d = 1; p = _; ts = []; rest = to_day_after_year by_place m h }
number_ending (places.YearMonthDash n m) h e =
    record { v = n.value; d = n.count; p = _; ts = []; rest = to_first_months_year by_place n m refl h.one h.other }
number_ending (places.MonthDashAfterYear m) h e = absurd cc
number_ending (places.ListedYear n) h e =
    dated_on (places.ListedYear n) _ (year_then by_place n dated_next dated_tokens h (dated_after by_place stage.Years refl))
number_ending (places.YearDash n) h e = record { v = n.value; d = n.count; p = _; ts = []; rest = to_year by_place n h }
number_ending (places.YearRange a b) h e =
    dated_on (places.YearRange a b) _
    (year_range_then by_place a b dated_next dated_tokens h (dated_after by_place stage.Years refl))
number_ending (places.YearStep a b) h e = record { v = 1; d = 1; p = _; ts = []; rest = to_step by_place a b h }
number_ending (places.YearSlash n) h e = record { v = 8; d = 1; p = _; ts = []; rest = to_eighth by_place n h }
number_ending (places.DateYear n) h e = absurd cc
number_ending (places.DateYearMonth n m) h e =
    record { v = 1; d = 1; p = _; ts = []; rest = to_day_of by_place n m h.one h.other }
number_ending (places.DateYearMonthDash n m) h e =
    record { v = n.value; d = n.count; p = _; ts = []; rest = to_months_year by_place n m refl h.one h.other }
number_ending (places.MonthsYear a m b) h e = absurd cc
number_ending (places.Month m) h e = record { v = 1; d = 1; p = _; ts = []; rest = to_day_of_month by_place m h }
number_ending (places.MonthDash m) h e = absurd cc
number_ending (places.Date x) h e = absurd cc
number_ending (places.ListedDay x) h e = absurd cc
number_ending (places.DateDash x) h e = dash_number x x.year refl h
number_ending (places.DateDashYear x n) h e = absurd cc
number_ending (places.DateDashMonth x year m) h e = dash_month_number x x.year year m refl h.one h.other.one h.other.other
number_ending places.WeekWord h e = record { v = 1; d = 1; p = _; ts = []; rest = first_week by_place }
number_ending (places.Week n) h e = absurd cc
number_ending (places.WeekDash n) h e = record { v = n.value; d = n.count; p = _; ts = []; rest = to_week by_place n h }
number_ending (places.WeekRange a b) h e = absurd cc
number_ending (places.WeekStep a b) h e = record { v = 1; d = 1; p = _; ts = []; rest = to_week_step by_place a b h }
number_ending (places.WeekBack a b) h e = absurd cc
number_ending (places.WeekAgain a b) h e = absurd cc
number_ending (places.Weekday k) h e = absurd cc
number_ending (places.WeekdayDash k) h e = absurd cc
number_ending (places.Bracket k r) h e =
    record { v = 1; d = 1; p = _; ts = token.CloseBracket ∷ []; rest = first_place by_place k r }
number_ending (places.BracketDash k r) h e =
    record { v = 1; d = 1; p = _; ts = token.CloseBracket ∷ []; rest = last_place by_place k r }
number_ending (places.Nth k n r) h e = absurd cc
number_ending (places.NthDash k n r) h e =
    record { v = n.value; d = n.count; p = _; ts = token.CloseBracket ∷ []; rest = to_place by_place k n r h.other }
number_ending (places.BracketEnd k r) h e = absurd cc
number_ending (places.PlacesEnd r) h e = absurd cc
number_ending (places.OffsetSign before r) h e =
    record { v = 1; d = 1; p = _; ts = token.Day ∷ []; rest = to_day by_place before r h }
number_ending (places.OffsetNumber o) h e = absurd cc
number_ending (places.Time t) h e = absurd cc
number_ending (places.TimeDash t) h e = absurd cc
number_ending (places.AfterDate y m) h e = absurd cc
number_ending (places.CommaDate y m) h e =
    record { v = 1; d = 1; p = _; ts = []; rest = comma_day by_place y m h.one h.other }
number_ending (places.After s) h e =
    dated_on (places.After s) _ (behind by_place s dated_next dated_tokens (dated_after by_place s e))
number_ending (places.Comma s) h e = comma_number s h

pub time_ending : (at : Place) → IsPlace at → takes_time at ≡ true → TimeEnding at
time_ending places.Front h e = timed_on places.Front _ (times_after by_place stage.Front refl)
time_ending places.TwentyFour h e = absurd cc
time_ending places.TwentyFourSlash h e = absurd cc
time_ending (places.Year n) h e =
    timed_on (places.Year n) _ (a_year by_place n timed_next timed_tokens h refl (times_after by_place stage.Years refl))
time_ending (places.YearMonth n m) h e =
    timed_on (places.YearMonth n m) _
    (a_year by_place n (piece.Kind ∷ piece.Months m None ∷ timed_next) (token.Month m ∷ timed_tokens) h.one refl
    (later_month by_place m timed_next timed_tokens h.other (times_after by_place stage.MonthDays refl)))
time_ending (places.MonthAfterYear m) h e =
    timed_on (places.MonthAfterYear m) _
    (later_month by_place m timed_next timed_tokens h (times_after by_place stage.MonthDays refl))
time_ending (places.YearMonthDash n m) h e = absurd cc
time_ending (places.MonthDashAfterYear m) h e = absurd cc
time_ending (places.ListedYear n) h e =
    timed_on (places.ListedYear n) _ (year_then by_place n timed_next timed_tokens h (times_after by_place stage.Years refl))
time_ending (places.YearDash n) h e = absurd cc
time_ending (places.YearRange a b) h e =
    timed_on (places.YearRange a b) _
    (year_range_then by_place a b timed_next timed_tokens h (times_after by_place stage.Years refl))
time_ending (places.YearStep a b) h e = absurd cc
time_ending (places.YearSlash n) h e = absurd cc
time_ending (places.DateYear n) h e = absurd cc
time_ending (places.DateYearMonth n m) h e = absurd cc
time_ending (places.DateYearMonthDash n m) h e = absurd cc
time_ending (places.MonthsYear a m b) h e = absurd cc
time_ending (places.Month m) h e =
    timed_on (places.Month m) _ (month_then by_place m timed_next timed_tokens h (times_after by_place stage.MonthDays refl))
time_ending (places.MonthDash m) h e = absurd cc
time_ending (places.Date x) h e =
    timed_on (places.Date x) _ (date_then by_place x timed_next timed_tokens h (times_after by_place stage.MonthDays refl))
time_ending (places.ListedDay x) h e =
    timed_on (places.ListedDay x) _
    (listed_then by_place x timed_next timed_tokens h (times_after by_place stage.MonthDays refl))
time_ending (places.DateDash x) h e = absurd cc
time_ending (places.DateDashYear x n) h e = absurd cc
time_ending (places.DateDashMonth x year m) h e = absurd cc
time_ending places.WeekWord h e = absurd cc
time_ending (places.Week n) h e =
    timed_on (places.Week n) _ (week_then by_place n timed_next timed_tokens h (times_after by_place stage.Weeks refl))
time_ending (places.WeekDash n) h e = absurd cc
time_ending (places.WeekRange a b) h e =
    timed_on (places.WeekRange a b) _
    (week_range_then by_place a b timed_next timed_tokens h (times_after by_place stage.Weeks refl))
time_ending (places.WeekStep a b) h e = absurd cc
time_ending (places.WeekBack a b) h e =
    timed_on (places.WeekBack a b) _
    (week_back_then by_place a b timed_next timed_tokens h (times_after by_place stage.Weeks refl))
time_ending (places.WeekAgain a b) h e =
    timed_on (places.WeekAgain a b) _
    (week_back_then by_place a b timed_next timed_tokens h (times_after by_place stage.Weeks refl))
time_ending (places.Weekday k) h e =
    timed_on (places.Weekday k) _ (weekday_then by_place k timed_next timed_tokens h (times_after by_place stage.Weekdays refl))
time_ending (places.WeekdayDash k) h e = absurd cc
time_ending (places.Bracket k r) h e = absurd cc
time_ending (places.BracketDash k r) h e = absurd cc
time_ending (places.Nth k n r) h e = absurd cc
time_ending (places.NthDash k n r) h e = absurd cc
time_ending (places.BracketEnd k r) h e = absurd cc
time_ending (places.PlacesEnd r) h e =
    timed_on (places.PlacesEnd r) _ (no_offset by_place r timed_next timed_tokens (times_after by_place stage.Weekdays refl))
time_ending (places.OffsetSign before r) h e = absurd cc
time_ending (places.OffsetNumber o) h e = absurd cc
time_ending (places.Time t) h e = absurd cc
time_ending (places.TimeDash t) h e = record { h = t.hour; m = t.minute; p = _; ts = []; rest = to_time by_place t h }
time_ending (places.AfterDate y m) h e =
    timed_on (places.AfterDate y m) _
    (behind_date by_place y m timed_next timed_tokens
    (behind by_place stage.MonthDays timed_next timed_tokens (times_after by_place stage.MonthDays refl)))
time_ending (places.CommaDate y m) h e =
    timed_on (places.CommaDate y m) _
    (behind_date by_place y m (piece.Rule link.Also ∷ timed_next) (token.Comma ∷ timed_tokens)
    (other_rule by_place stage.MonthDays timed_next timed_tokens refl refl (times_after by_place stage.Front refl)))
time_ending (places.After s) h e =
    timed_on (places.After s) _ (behind by_place s timed_next timed_tokens (times_after by_place s e))
time_ending (places.Comma s) h e = comma_time s h
