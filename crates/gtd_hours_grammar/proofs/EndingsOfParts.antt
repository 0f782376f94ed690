-- Texts that go on behind a part of a rule, or end there.
use Rattle.std.proofs.Common.{◌≡◌, ℕ, ◌+◌, ◌≤◌, true, false, List, [], ◌∷◌, Option, Some, None, refl}
use Rattle.std.proofs.Common.{arith, pos}
use Rattle.std.specs.Prelude.{IfSome}
use Rattle.std.proofs.lemmas.Int.{ints}
use Rattle.gtd_hours.specs.Calendar.{month_length}
use Rattle.gtd_hours.specs.Ranges.{IsMonth, end_of}
use Rattle.gtd_hours.specs.declared.hours.Link.TheVariants as link
use Rattle.gtd_hours_tokens.specs.declared.token.TokenKind.TheVariants as token
use Rattle.gtd_hours_parts.specs.declared.digits.Digits.{Digits}
use Rattle.gtd_hours_parts.specs.declared.clock.ClockTime.{ClockTime}
use Rattle.gtd_hours_parts.specs.Dates.{IsDayOfYear, IsWrittenDay}
use Rattle.gtd_hours_parts.specs.Numbers.{IsYearNumber}
use Rattle.gtd_hours_parts.specs.Times.{IsBegin, minute_of}
use Rattle.gtd_hours_parts.specs.declared.piece.WrittenDate.{WrittenDate}
use Rattle.gtd_hours_moves.specs.Terms.{TokenKind, Piece}
use Rattle.gtd_hours_moves.specs.declared.stage.Stage.{Stage}
use Rattle.gtd_hours_parts.specs.declared.piece.Piece.TheVariants as piece
use Rattle.gtd_hours_moves.specs.declared.stage.Stage.TheVariants as stage
use Rattle.gtd_hours_moves.specs.Grammar.{Demand, Follow, IsDates, IsMonthDays, IsOne, IsPlaces, IsTimes, IsYears}
use Rattle.gtd_hours_moves.specs.Grammar.{Listed, More, Text, begins_with_date, date_before, list_goes_on, number, precedes}
use Rattle.gtd_hours_moves.specs.Grammar.{time}
use Rattle.gtd_hours_parts.specs.Pieces.{AreWrittenTimes, IsWrittenDate}
use Rattle.gtd_hours_moves.specs.Places.{Behind, BehindBrackets, BehindPlace, From, FromDate, InBrackets}

-- ---- numbers and times that fit

abbrev pub digit_one : Digits
digit_one = record { value = 1; count = 1 }

abbrev pub some_year : Digits
some_year = record { value = 2000; count = 4 }

pub some_year-is : IsYearNumber some_year
some_year-is = (refl, omega arith, omega arith)

long_month : (y m : ℕ) → 1 ≤ month_length (pos y) m
long_month y m = grind arith

-- each month has a first day
pub first_day : (m : ℕ) → IsMonth m → IsWrittenDay m digit_one
first_day m h = ((omega arith, omega arith, omega arith, omega arith), (h, (omega arith, long_month 2000 m)))

pub first_day_of_year : (y m : ℕ) → 1800 ≤ y → y ≤ 2799 → IsMonth m → IsDayOfYear y m digit_one
first_day_of_year y m low high h = (
  (omega arith, omega arith, omega arith, omega arith),
  ((omega (arith, ints, low), omega (arith, ints, high)), (h, (omega arith, long_month y m))),
)

abbrev pub first_of : Option Digits → ℕ → WrittenDate
first_of year m = record { year = year; month = m; day = digit_one }

pub first_of-is : (year : Option Digits) (m : ℕ) → IfSome year IsYearNumber → IsMonth m → IsWrittenDate (first_of year m)
first_of-is None m y h = (y, first_day m h)
first_of-is (Some n) m y h = (y, first_day_of_year n.value m y.1 y.2 h)

-- from a time to the same one on the next day
pub whole_day : (t : ClockTime) → IsBegin t → AreWrittenTimes t t
whole_day t h = (h, (h.1, omega (arith, h.0, h.1)), (omega (arith, h.0, h.1), same (minute_of t)))
  where
    same : (n : ℕ) → end_of n n ≤ n + 1440
    same n = grind arith

-- ---- the rest of a text

pub listed : (IsOne : Text) (p later : List Piece) (ts rest : List TokenKind) → IsOne p ts later rest
    → Listed IsOne p ts later rest
listed IsOne p later ts rest h = record { q = later; us = rest; one = h; more = More.none later rest refl refl }

pub behind : (d : Demand) (s : Stage) (p : List Piece) (ts : List TokenKind) → Follow d s p ts → Behind d s p ts
behind d s p ts h = record { later = p; rest = ts; more = More.none p ts refl refl; follow = h }

pub then : (d : Demand) (s : Stage) (p later : List Piece) (ts rest : List TokenKind) → IsOne d s p ts later rest
    → Follow d s later rest → From d s p ts
then d s p later ts rest h k = record { later = later; rest = rest; one = h; behind = behind d s later rest k }

-- a date, and what stands behind it and behind its list
pub dates_then : (d : Demand) (x : WrittenDate) (p later : List Piece) (ts rest : List TokenKind)
    → IsDates d later rest x p ts → Follow d stage.MonthDays later rest → FromDate d x p ts
dates_then d x p later ts rest h k =
    record { later = later; rest = rest; dates = h; behind = behind d stage.MonthDays later rest k }

pub in_brackets : (d : Demand) (k r : ℕ) (p later : List Piece) (ts rest : List TokenKind)
    → IsPlaces k None p ts (piece.PlacesEnd None ∷ later) (token.CloseBracket ∷ rest) → Follow d stage.Weekdays later rest
    → InBrackets d k r p ts
in_brackets d k r p later ts rest h follow = record {
  later = later;
  rest = rest;
  offset = None;
  is = record {};
  reaches = record {};
  listed = listed (IsPlaces k None) p (piece.PlacesEnd None ∷ later) ts (token.CloseBracket ∷ rest) h;
  behind = behind d stage.Weekdays later rest follow;
}

pub bracket_closed : (d : Demand) (k r : ℕ) (p : List Piece) (ts : List TokenKind) → Follow d stage.Weekdays p ts
    → BehindPlace d k r (piece.PlacesEnd None ∷ p) (token.CloseBracket ∷ ts)
bracket_closed d k r p ts h = record {
  later = p;
  rest = ts;
  offset = None;
  is = record {};
  reaches = record {};
  more = More.none (piece.PlacesEnd None ∷ p) (token.CloseBracket ∷ ts) refl refl;
  behind = behind d stage.Weekdays p ts h;
}

-- behind brackets, no offset follows
pub no_offset : (d : Demand) (r : ℕ) (p : List Piece) (ts : List TokenKind) → Follow d stage.Weekdays p ts
    → BehindBrackets d r (piece.PlacesEnd None ∷ p) ts
no_offset d r p ts h = record {
  later = p;
  rest = ts;
  offset = None;
  is = record {};
  reaches = record {};
  pieces = refl;
  tokens = refl;
  behind = behind d stage.Weekdays p ts h;
}

pub done : (d : Demand) (s : Stage) → precedes stage.Front s ≡ true → Follow d s [] []
done d s e = Follow.ends s [] [] e refl refl

pub opened : (d : Demand) → Follow d stage.Front [] (token.Open ∷ [])
opened d = Follow.opens stage.Front [] (token.Open ∷ []) [] refl refl (done d stage.Modifier refl)

-- another rule, behind a comma
pub other_rule : (d : Demand) (s : Stage) (p : List Piece) (ts : List TokenKind) → precedes stage.Front s ≡ true
    → list_goes_on s ts ≡ false → Follow d stage.Front p ts → Behind d s (piece.Rule link.Also ∷ p) (token.Comma ∷ ts)
other_rule d s p ts e no_more h =
    behind d s (piece.Rule link.Also ∷ p) (token.Comma ∷ ts)
    (Follow.also s (piece.Rule link.Also ∷ p) p (token.Comma ∷ ts) ts e refl no_more refl h)

-- the list goes on, behind a comma
pub another : (d : Demand) (s : Stage) (p later : List Piece) (ts rest : List TokenKind) → IsOne d s p ts later rest
    → Follow d s later rest → Behind d s p (token.Comma ∷ ts)
another d s p later ts rest h follow = record {
  later = later;
  rest = rest;
  follow = follow;
  more = More.comma p later (token.Comma ∷ ts) ts rest refl h (More.none later rest refl refl);
}

-- ---- parts

pub a_year : (d : Demand) (n : Digits) (p : List Piece) (ts : List TokenKind) → IsYearNumber n
    → begins_with_date (number n ∷ ts) ≡ false → Follow d stage.Years p ts
    → Follow d stage.Front (piece.Kind ∷ piece.Years n None None ∷ p) (number n ∷ ts)
a_year d n p ts h no_date follow =
    Follow.years stage.Front (piece.Kind ∷ piece.Years n None None ∷ p) (piece.Years n None None ∷ p) p (number n ∷ ts) ts refl
    no_date refl (listed (IsYears d) (piece.Years n None None ∷ p) p (number n ∷ ts) ts (IsYears.one n refl refl h)) follow

pub a_month_day : (d : Demand) (s : Stage) (p later : List Piece) (ts rest : List TokenKind) → precedes s stage.MonthDays ≡ true
    → IsMonthDays d p ts later rest → Follow d stage.MonthDays later rest → Follow d s (piece.Kind ∷ p) ts
a_month_day d s p later ts rest e h follow =
    Follow.month_days s (piece.Kind ∷ p) p later ts rest e refl (listed (IsMonthDays d) p later ts rest h) follow

pub a_month : (d : Demand) (m : ℕ) (p : List Piece) (ts : List TokenKind) → IsMonth m
    → IsMonthDays d (piece.Months m None ∷ p) (token.Month m ∷ ts) p ts
a_month d m p ts h = IsMonthDays.month m refl refl h

pub a_date : (d : Demand) (x : WrittenDate) (p : List Piece) (ts : List TokenKind) → IsWrittenDate x
    → IsMonthDays d (piece.Dates x None ∷ p) (date_before x ts) p ts
a_date d x p ts h =
    IsMonthDays.dates x ts refl h (IsDates.one x None (piece.Dates x None ∷ p) ts refl refl (record {}))

-- `2000 Jan 1`
abbrev pub some_date : WrittenDate
some_date = first_of (Some some_year) 1

pub some_date-is : IsWrittenDate some_date
some_date-is = first_of-is (Some some_year) 1 some_year-is (omega arith, omega arith)

abbrev pub after_number : List TokenKind
after_number = token.Month 1 ∷ token.Number 1 1 ∷ []

pub dated_after : (d : Demand) (s : Stage) → precedes s stage.MonthDays ≡ true
    → Follow d s (piece.Kind ∷ piece.Dates some_date None ∷ []) (token.Number 2000 4 ∷ after_number)
dated_after d s e =
    a_month_day d s (piece.Dates some_date None ∷ []) [] (date_before some_date []) [] e (a_date d some_date [] [] some_date-is)
    (done d stage.MonthDays refl)

-- the same time again
abbrev pub to_same : ClockTime → List TokenKind
to_same t = token.Dash ∷ time t ∷ []

pub some_times : (t : ClockTime) → IsBegin t → IsTimes (piece.Times t t ∷ []) (time t ∷ to_same t) [] []
some_times t h = record { begin = t; last = t; tokens = refl; pieces = refl; range = whole_day t h }

abbrev pub midnight : ClockTime
midnight = record { hour = 0; minute = 0 }

pub midnight-is : IsBegin midnight
midnight-is = (omega arith, omega arith)

pub times_after : (d : Demand) (s : Stage) → precedes s stage.Times ≡ true
    → Follow d s (piece.Times midnight midnight ∷ []) (token.Time 0 0 ∷ to_same midnight)
times_after d s e =
    let p = piece.Times midnight midnight ∷ [] in
    let ts = token.Time 0 0 ∷ to_same midnight in
    Follow.times s p [] ts [] e (listed IsTimes p [] ts [] (some_times midnight midnight-is)) (done d stage.Times refl)
