-- Written months, dates, weekdays and times are pieces.
use Rattle.std.proofs.Common.{◌≡◌, ℕ, ◌+◌, ◌/◌, ◌%◌, ◌≤◌, Bool, true, false, cond, List, [], ◌∷◌, ◌++◌, length}
use Rattle.std.proofs.Common.{Option, Some, None, refl, sym, subst, arith}
use Rattle.std.specs.Prelude.{◌==◌, ◌&&◌, ◌||◌, codes, decimal, ℤ, pos, ◌≤ℤ◌}
use Rattle.std.proofs.lemmas.Bool.{eqb-true}
use Rattle.std.proofs.lemmas.Bool.Decides.{nat_tests}
use Rattle.std.proofs.lemmas.Int.{ints}
use Rattle.gtd_hours.specs.declared.hours.Selector.{Selector}
use Rattle.gtd_hours.specs.declared.hours.Selector.TheVariants as selector
use Rattle.gtd_hours.specs.declared.hours.Months.{Months}
use Rattle.gtd_hours.specs.declared.hours.MonthDay.{MonthDay}
use Rattle.gtd_hours.specs.declared.hours.YearDate.{YearDate}
use Rattle.gtd_hours.specs.declared.hours.Dates.{Dates}
use Rattle.gtd_hours.specs.declared.hours.Dated.{Dated}
use Rattle.gtd_hours.specs.declared.hours.Weekdays.{Weekdays}
use Rattle.gtd_hours.specs.declared.hours.WeekdayPlace.{WeekdayPlace}
use Rattle.gtd_hours.specs.declared.hours.TimeRange.{TimeRange}
use Rattle.gtd_hours.specs.Calendar.{is_leap_year, month_length}
use Rattle.gtd_hours.specs.Ranges.{IsTimeRange}
use Rattle.gtd_hours.specs.Written.{clock_text, four_digits, month_day_text, month_name}
use Rattle.gtd_hours.specs.Written.{begun_place, is_one_date, selector_text, time_text, weekday_name, year_date_text}
use Rattle.gtd_hours_tokens.specs.declared.token.TokenKind.{TokenKind}
use Rattle.gtd_hours_tokens.specs.declared.token.TokenKind.TheVariants as token
use Rattle.gtd_hours_parts.specs.declared.clock.ClockTime.{ClockTime}
use Rattle.gtd_hours_parts.specs.Times.{minute_of}
use Rattle.gtd_hours_parts.specs.declared.piece.Piece.TheVariants as piece
use Rattle.gtd_hours_parts.specs.declared.piece.LastDate.{LastDate}
use Rattle.gtd_hours_parts.specs.declared.piece.LastDate.TheVariants as last_date
use Rattle.gtd_hours_parts.specs.declared.piece.WrittenDate.{WrittenDate}
use Rattle.gtd_hours_parts.specs.Pieces.{AreWrittenDates, AreWrittenTimes, IsWrittenDate}
use Rattle.gtd_hours_moves.specs.Grammar.{IsDates, IsMonthDays, IsPlaces, IsTimes, IsWeekdays, date_before}
use Rattle.gtd_hours_moves.specs.Grammar.{in_full, none as no_more, range_to}
use Rattle.gtd_hours_parts.specs.declared.piece.Offset.{Offset}
use Rattle.gtd_hours_parts.specs.declared.piece.Piece.{Piece}
use Rattle.gtd_hours_text.specs.Standing.{AllWeekdays, AreMoved, ArePlaces, AreSelectors, offset_in}
use Rattle.gtd_hours_text.proofs.WrittenTokens.{Anything, Apart, Spelt, decimal_spelt, joined, sign_spelt, tight}
use Rattle.gtd_hours_text.proofs.WrittenParts.{clock_spelt, dashed, month_spelt, spaced, weekday_spelt}
use Rattle.gtd_hours_text.proofs.WrittenParts.{year_spelt}
use Rattle.gtd_hours_text.proofs.WrittenItems.{AreAll, Item, Says, in_brackets, no_selectors, no_weekdays, one_piece}
use Rattle.gtd_hours_text.proofs.WrittenItems.{only_month_days, only_times, only_weekdays, says_of}
use Rattle.gtd_hours_text.proofs.WrittenSelectors.{and_both, digits, is_day, is_place, year_digits}

-- ---- what each piece says

says_months : (a : ℕ) (b : Option ℕ) (xs : List Selector) → AreSelectors (piece.Months a b) xs
    → Says (piece.Months a b ∷ []) (only_month_days xs)
says_months a b xs are =
    says_of (piece.Months a b ∷ []) (only_month_days xs) no_selectors (one_piece (piece.Months a b) xs are) no_selectors
    no_weekdays (record {}) refl refl

says_dates : (a : WrittenDate) (b : Option LastDate) (xs : List Selector) → AreSelectors (piece.Dates a b) xs
    → Says (piece.Dates a b ∷ []) (only_month_days xs)
says_dates a b xs are =
    says_of (piece.Dates a b ∷ []) (only_month_days xs) no_selectors (one_piece (piece.Dates a b) xs are) no_selectors
    no_weekdays (record {}) refl refl

-- ---- months

months_by : (x : Months) (b : Bool) → (x.first == x.last) ≡ b
    → Item (IsMonthDays in_full) (cond b (month_name x.first) (month_name x.first ++ codes "-" ++ month_name x.last))
    (only_month_days (selector.Months x ∷ [])) false
months_by x true e = record {
  p = piece.Months x.first None ∷ [];
  us = token.Month x.first ∷ [];
  spelt = month_spelt x.first x.first_in;
  one = λ later rest. IsMonthDays.month x.first refl refl x.first_in;
  says = says_months x.first None (selector.Months x ∷ []) (refl, sym (eqb-true x.first x.last e));
  front = λ rest. refl;
}
months_by x false e = record {
  p = piece.Months x.first (Some x.last) ∷ [];
  us = token.Month x.first ∷ token.Dash ∷ token.Month x.last ∷ [];
  spelt = dashed (month_name x.first) (month_name x.last) (token.Month x.first ∷ []) (token.Month x.last ∷ [])
      (month_spelt x.first x.first_in) (month_spelt x.last x.last_in);
  one = λ later rest. IsMonthDays.months x.first x.last refl refl x.first_in x.last_in;
  says = says_months x.first (Some x.last) (selector.Months x ∷ []) (refl, refl);
  front = λ rest. refl;
}

pub months_item : (follows : Bool) (x : Months) → Item (IsMonthDays in_full) (selector_text follows (selector.Months x))
    (only_month_days (selector.Months x ∷ [])) false
months_item follows x = months_by x (x.first == x.last) refl

-- ---- dates

short : (b c d : Bool) (n : ℕ) → n ≤ cond b (cond c 29 28) (cond d 30 31) → n ≤ 31
short true true d n h = omega (arith, h)
short true false d n h = omega (arith, h)
short false c true n h = omega (arith, h)
short false c false n h = h

day_bound : (y : ℤ) (m n : ℕ) → n ≤ month_length y m → n ≤ 31
day_bound y m n h = short (m == 2) (is_leap_year y) ((m == 4) || (m == 6) || (m == 9) || (m == 11)) n h

abbrev written : MonthDay → WrittenDate
written date = record { year = None; month = date.month; day = digits date.day }

is_written : (date : MonthDay) → IsWrittenDate (written date)
is_written date =
    let r = date.in_range in (tt, (is_day date.day r.1.0 (day_bound (pos 2000) date.month date.day r.1.1), r))

month_day_spelt : (date : MonthDay)
    → Spelt Apart (month_day_text date) (token.Month date.month ∷ token.Number date.day (length (decimal date.day)) ∷ [])
month_day_spelt date =
    let r = date.in_range in
    let high : date.day ≤ 31 = day_bound (pos 2000) date.month date.day r.1.1 in
    spaced (month_name date.month) (decimal date.day) (token.Month date.month ∷ [])
    (token.Number date.day (length (decimal date.day)) ∷ []) (month_spelt date.month r.0)
    (decimal_spelt date.day (omega (arith, high)))

-- a date or a range of dates
a_date : (x : WrittenDate) (last : Option LastDate) (later : List Piece) (rest : List TokenKind) → IsWrittenDate x
    → AreWrittenDates x last
    → IsMonthDays in_full (piece.Dates x last ∷ later) (date_before x (range_to last rest)) later rest
a_date x last later rest is ends =
    IsMonthDays.dates x (range_to last rest) refl is
    (IsDates.one x last (piece.Dates x last ∷ later) (range_to last rest) refl refl ends)

dates_by : (x : Dates) (b : Bool) → ((x.first.month == x.last.month) && (x.first.day == x.last.day)) ≡ b
    → Item (IsMonthDays in_full) (cond b (month_day_text x.first) (month_day_text x.first ++ codes "-" ++ month_day_text x.last))
    (only_month_days (selector.Dates x ∷ [])) false
dates_by x true e =
    let same = and_both (x.first.month == x.last.month) (x.first.day == x.last.day) e in
    record {
      p = piece.Dates (written x.first) None ∷ [];
      us = token.Month x.first.month ∷ token.Number x.first.day (length (decimal x.first.day)) ∷ [];
      spelt = month_day_spelt x.first;
      one = λ later rest. a_date (written x.first) None later rest (is_written x.first) (record {});
      says = says_dates (written x.first) None (selector.Dates x ∷ [])
          ((refl, refl), (sym (eqb-true x.first.month x.last.month same.0), sym (eqb-true x.first.day x.last.day same.1)));
      front = λ rest. refl;
    }
dates_by x false e = record {
  p = piece.Dates (written x.first) (Some (last_date.Date (written x.last))) ∷ [];
  us = token.Month x.first.month ∷ token.Number x.first.day (length (decimal x.first.day)) ∷ token.Dash
      ∷ token.Month x.last.month ∷ token.Number x.last.day (length (decimal x.last.day)) ∷ [];
  spelt = dashed (month_day_text x.first) (month_day_text x.last)
      (token.Month x.first.month ∷ token.Number x.first.day (length (decimal x.first.day)) ∷ [])
      (token.Month x.last.month ∷ token.Number x.last.day (length (decimal x.last.day)) ∷ [])
      (month_day_spelt x.first) (month_day_spelt x.last);
  one = λ later rest. a_date (written x.first) (Some (last_date.Date (written x.last))) later rest (is_written x.first)
      (is_written x.last).1;
  says = says_dates (written x.first) (Some (last_date.Date (written x.last))) (selector.Dates x ∷ [])
      ((refl, refl), (refl, refl));
  front = λ rest. refl;
}

pub dates_item : (follows : Bool) (x : Dates) → Item (IsMonthDays in_full) (selector_text follows (selector.Dates x))
    (only_month_days (selector.Dates x ∷ [])) false
dates_item follows x = dates_by x ((x.first.month == x.last.month) && (x.first.day == x.last.day)) refl

-- ---- dates of years

abbrev dated : YearDate → WrittenDate
dated date = record { year = Some (year_digits date.year); month = date.month; day = digits date.day }

year_low : (y : ℕ) → pos 1800 ≤ℤ pos y → 1800 ≤ y
year_low y h = omega (arith, ints, h)

year_high : (y : ℕ) → pos y ≤ℤ pos 2799 → y ≤ 2799
year_high y h = omega (arith, ints, h)

is_dated : (date : YearDate) → IsWrittenDate (dated date)
is_dated date =
    let r = date.is_date in (
      (refl, year_low date.year r.0.0, year_high date.year r.0.1),
      (is_day date.day r.1.1.0 (day_bound (pos date.year) date.month date.day r.1.1.1), r),
    )

abbrev dated_kinds : YearDate → List TokenKind
dated_kinds date =
    token.Number date.year 4 ∷ token.Month date.month ∷ token.Number date.day (length (decimal date.day)) ∷ []

year_date_spelt : (date : YearDate) → Spelt Apart (year_date_text date) (dated_kinds date)
year_date_spelt date =
    let r = date.is_date in
    let high : date.day ≤ 31 = day_bound (pos date.year) date.month date.day r.1.1.1 in
    let late : date.year ≤ 2799 = year_high date.year r.0.1 in
    spaced (four_digits date.year ++ codes " " ++ month_name date.month) (decimal date.day)
    (token.Number date.year 4 ∷ token.Month date.month ∷ []) (token.Number date.day (length (decimal date.day)) ∷ [])
    (spaced (four_digits date.year) (month_name date.month) (token.Number date.year 4 ∷ []) (token.Month date.month ∷ [])
    (year_spelt date.year (omega (arith, late))) (month_spelt date.month r.1.0)) (decimal_spelt date.day (omega (arith, high)))

dated_by : (x : Dated) (b : Bool) → is_one_date x.first x.last ≡ b
    → Item (IsMonthDays in_full) (cond b (year_date_text x.first) (year_date_text x.first ++ codes "-" ++ year_date_text x.last))
    (only_month_days (selector.Dated x ∷ [])) false
dated_by x true e =
    let both = and_both ((x.first.year == x.last.year) && (x.first.month == x.last.month)) (x.first.day == x.last.day) e in
    let same = and_both (x.first.year == x.last.year) (x.first.month == x.last.month) both.0 in
    record {
      p = piece.Dates (dated x.first) None ∷ [];
      us = dated_kinds x.first;
      spelt = year_date_spelt x.first;
      one = λ later rest. a_date (dated x.first) None later rest (is_dated x.first) (record {});
      says = says_dates (dated x.first) None (selector.Dated x ∷ []) (
        (refl, refl, refl),
        (
          sym (eqb-true x.first.year x.last.year same.0),
          sym (eqb-true x.first.month x.last.month same.1),
          sym (eqb-true x.first.day x.last.day both.1),
        ),
      );
      front = λ rest. refl;
    }
dated_by x false e =
    let last = is_dated x.last in
    record {
      p = piece.Dates (dated x.first) (Some (last_date.Date (dated x.last))) ∷ [];
      us = dated_kinds x.first ++ token.Dash ∷ [] ++ dated_kinds x.last;
      spelt = dashed (year_date_text x.first) (year_date_text x.last) (dated_kinds x.first) (dated_kinds x.last)
          (year_date_spelt x.first) (year_date_spelt x.last);
      one = λ later rest. a_date (dated x.first) (Some (last_date.Date (dated x.last))) later rest (is_dated x.first)
          (last.0, (last.1, x.in_range));
      says = says_dates (dated x.first) (Some (last_date.Date (dated x.last))) (selector.Dated x ∷ [])
          ((refl, refl, refl), (refl, refl, refl));
      front = λ rest. refl;
    }

pub dated_item : (follows : Bool) (x : Dated) → Item (IsMonthDays in_full) (selector_text follows (selector.Dated x))
    (only_month_days (selector.Dated x ∷ [])) false
dated_item follows x = dated_by x (is_one_date x.first x.last) refl

-- ---- weekdays

-- plain weekdays stay, whatever offset follows
stay : (o : Option Offset) (k : ℕ) (b : Option ℕ) (xs : List Selector) → AreSelectors (piece.Weekdays k b) xs → AreMoved o xs xs
stay None k b (selector.Weekdays x ∷ []) are = (refl, record {})
stay (Some o) k b (selector.Weekdays x ∷ []) are = (refl, record {})
stay o k b (x ∷ []) are = absurd are
stay o k b xs are = absurd are

all_weekdays : (k : ℕ) (b : Option ℕ) (xs : List Selector) → AreSelectors (piece.Weekdays k b) xs
    → AreAll (piece.Weekdays k b ∷ []) xs
all_weekdays k b xs are = λ rest ys all.
    AllWeekdays.more (piece.Weekdays k b) (piece.Weekdays k b ∷ rest) rest xs xs ys (xs ++ ys) refl refl are
    (stay (offset_in rest) k b xs are) all

says_weekdays : (k : ℕ) (b : Option ℕ) (xs : List Selector) → AreSelectors (piece.Weekdays k b) xs
    → Says (piece.Weekdays k b ∷ []) (only_weekdays xs)
says_weekdays k b xs are =
    says_of (piece.Weekdays k b ∷ []) (only_weekdays xs) no_selectors no_selectors no_selectors
    (all_weekdays k b xs are) (record {}) refl refl

weekdays_by : (x : Weekdays) (b : Bool) → (x.first == x.last) ≡ b
    → Item IsWeekdays (cond b (weekday_name x.first) (weekday_name x.first ++ codes "-" ++ weekday_name x.last))
    (only_weekdays (selector.Weekdays x ∷ [])) false
weekdays_by x true e = record {
  p = piece.Weekdays x.first None ∷ [];
  us = token.Weekday x.first ∷ [];
  spelt = weekday_spelt x.first x.first_in;
  one = λ later rest. IsWeekdays.one x.first refl refl x.first_in;
  says = says_weekdays x.first None (selector.Weekdays x ∷ []) (refl, sym (eqb-true x.first x.last e));
  front = λ rest. refl;
}
weekdays_by x false e = record {
  p = piece.Weekdays x.first (Some x.last) ∷ [];
  us = token.Weekday x.first ∷ token.Dash ∷ token.Weekday x.last ∷ [];
  spelt = dashed (weekday_name x.first) (weekday_name x.last) (token.Weekday x.first ∷ []) (token.Weekday x.last ∷ [])
      (weekday_spelt x.first x.first_in) (weekday_spelt x.last x.last_in);
  one = λ later rest. IsWeekdays.range x.first x.last refl refl x.first_in x.last_in;
  says = says_weekdays x.first (Some x.last) (selector.Weekdays x ∷ []) (refl, refl);
  front = λ rest. refl;
}

pub weekdays_item : (follows : Bool) (x : Weekdays)
    → Item IsWeekdays (selector_text follows (selector.Weekdays x)) (only_weekdays (selector.Weekdays x ∷ [])) false
weekdays_item follows x = weekdays_by x (x.first == x.last) refl

-- ---- places

opened : (a : List ℕ) (j : List TokenKind) → Spelt Apart a j → Spelt Anything (a ++ 91 ∷ []) (j ++ token.OpenBracket ∷ [])
opened a j x = joined Apart Anything a (91 ∷ []) j (token.OpenBracket ∷ []) x (sign_spelt 91 token.OpenBracket refl)
    (λ rest c. (refl, refl, refl))

closed : (a : List ℕ) (j : List TokenKind) → Spelt Apart a j → Spelt Apart (a ++ 93 ∷ []) (j ++ token.CloseBracket ∷ [])
closed a j x = tight (a ++ 93 ∷ []) (j ++ token.CloseBracket ∷ [])
    (joined Apart Anything a (93 ∷ []) j (token.CloseBracket ∷ []) x (sign_spelt 93 token.CloseBracket refl)
    (λ rest c. (refl, refl, refl)))

-- the tokens of the number of a place, with the sign of one back from the end of the month
abbrev pub number_kinds : Bool → WeekdayPlace → List TokenKind
number_kinds true x = token.Dash ∷ token.Number x.number (length (decimal x.number)) ∷ []
number_kinds false x = token.Number x.number (length (decimal x.number)) ∷ []

-- a place up to its number
pub begun_spelt : (back : Bool) (x : WeekdayPlace)
    → Spelt Apart (begun_place back x) (token.Weekday x.weekday ∷ token.OpenBracket ∷ number_kinds back x)
begun_spelt false x =
    let r = x.in_range in
    joined Anything Apart (weekday_name x.weekday ++ codes "[") (decimal x.number)
    (token.Weekday x.weekday ∷ token.OpenBracket ∷ []) (token.Number x.number (length (decimal x.number)) ∷ [])
    (opened (weekday_name x.weekday) (token.Weekday x.weekday ∷ []) (weekday_spelt x.weekday r.0))
    (decimal_spelt x.number (omega (arith, r.2))) (λ rest c. tt)
begun_spelt true x =
    let r = x.in_range in
    let signs : Spelt Anything (91 ∷ 45 ∷ []) (token.OpenBracket ∷ token.Dash ∷ []) =
    joined Anything Anything (91 ∷ []) (45 ∷ []) (token.OpenBracket ∷ []) (token.Dash ∷ []) (sign_spelt 91 token.OpenBracket refl)
    (sign_spelt 45 token.Dash refl) (λ rest c. tt) in
    joined Anything Apart (weekday_name x.weekday ++ codes "[-") (decimal x.number)
    (token.Weekday x.weekday ∷ token.OpenBracket ∷ token.Dash ∷ []) (token.Number x.number (length (decimal x.number)) ∷ [])
    (joined Apart Anything (weekday_name x.weekday) (codes "[-") (token.Weekday x.weekday ∷ [])
    (token.OpenBracket ∷ token.Dash ∷ []) (weekday_spelt x.weekday r.0) signs (λ rest c. (refl, refl, refl)))
    (decimal_spelt x.number (omega (arith, r.2))) (λ rest c. tt)

-- the tokens of a place in brackets
abbrev nth_kinds : WeekdayPlace → List TokenKind
nth_kinds x =
    token.Weekday x.weekday ∷ token.OpenBracket ∷ token.Number x.number (length (decimal x.number)) ∷ token.CloseBracket ∷ []

pub nth_are : (x : WeekdayPlace) → AreSelectors (piece.Places x.weekday (digits x.number) None) (selector.Nth x ∷ [])
nth_are x =
    ArePlaces.place x.number x.number (selector.Nth x) [] (selector.Nth x ∷ []) (omega arith) refl (refl, refl)
    (ArePlaces.past (x.number + 1) x.number [] (omega arith) refl)

nth_one : (x : WeekdayPlace) (later : List Piece) (rest : List TokenKind)
    → IsWeekdays (piece.Places x.weekday (digits x.number) None ∷ piece.PlacesEnd None ∷ later) (nth_kinds x ++ rest) later rest
nth_one x later rest =
    let r = x.in_range in
    IsWeekdays.places x.weekday None (token.Number x.number (length (decimal x.number)) ∷ token.CloseBracket ∷ rest) refl r.0
    (record {}) (record {
      q = piece.PlacesEnd None ∷ later;
      us = token.CloseBracket ∷ rest;
      one = IsPlaces.one (digits x.number) refl refl (is_place x.number r.1 r.2) (record {});
      more = no_more (piece.PlacesEnd None ∷ later) (token.CloseBracket ∷ rest) refl refl;
    })

pub nth_item : (follows : Bool) (x : WeekdayPlace)
    → Item IsWeekdays (selector_text follows (selector.Nth x)) (only_weekdays (selector.Nth x ∷ [])) false
nth_item follows x = record {
  p = piece.Places x.weekday (digits x.number) None ∷ piece.PlacesEnd None ∷ [];
  us = nth_kinds x;
  spelt = closed (begun_place false x) (token.Weekday x.weekday ∷ token.OpenBracket ∷ number_kinds false x) (begun_spelt false x);
  one = λ later rest. nth_one x later rest;
  says = says_of (piece.Places x.weekday (digits x.number) None ∷ piece.PlacesEnd None ∷ [])
      (only_weekdays (selector.Nth x ∷ [])) no_selectors no_selectors no_selectors
      (in_brackets (piece.Places x.weekday (digits x.number) None) None (selector.Nth x ∷ []) (selector.Nth x ∷ []) (nth_are x)
      (refl, record {})) (record {}) refl refl;
  front = λ rest. refl;
}

abbrev back_kinds : WeekdayPlace → List TokenKind
back_kinds x =
    token.Weekday x.weekday ∷ token.OpenBracket ∷ token.Dash ∷ token.Number x.number (length (decimal x.number))
    ∷ token.CloseBracket ∷ []

back_one : (x : WeekdayPlace) (later : List Piece) (rest : List TokenKind)
    → IsWeekdays (piece.PlaceBack x.weekday (digits x.number) ∷ piece.PlacesEnd None ∷ later) (back_kinds x ++ rest) later rest
back_one x later rest =
    let r = x.in_range in
    IsWeekdays.places x.weekday None (token.Dash ∷ token.Number x.number (length (decimal x.number)) ∷ token.CloseBracket ∷ rest)
    refl r.0 (record {}) (record {
      q = piece.PlacesEnd None ∷ later;
      us = token.CloseBracket ∷ rest;
      one = IsPlaces.back (digits x.number) refl refl (is_place x.number r.1 r.2) (record {});
      more = no_more (piece.PlacesEnd None ∷ later) (token.CloseBracket ∷ rest) refl refl;
    })

pub back_item : (follows : Bool) (x : WeekdayPlace)
    → Item IsWeekdays (selector_text follows (selector.NthBack x)) (only_weekdays (selector.NthBack x ∷ [])) false
back_item follows x = record {
  p = piece.PlaceBack x.weekday (digits x.number) ∷ piece.PlacesEnd None ∷ [];
  us = back_kinds x;
  spelt = closed (begun_place true x) (token.Weekday x.weekday ∷ token.OpenBracket ∷ number_kinds true x) (begun_spelt true x);
  one = λ later rest. back_one x later rest;
  says = says_of (piece.PlaceBack x.weekday (digits x.number) ∷ piece.PlacesEnd None ∷ [])
      (only_weekdays (selector.NthBack x ∷ [])) no_selectors no_selectors no_selectors
      (in_brackets (piece.PlaceBack x.weekday (digits x.number)) None (selector.NthBack x ∷ []) (selector.NthBack x ∷ [])
      (refl, refl) (refl, record {})) (record {}) refl refl;
  front = λ rest. refl;
}

-- ---- times

abbrev clock : ℕ → ClockTime
clock minutes = record { hour = minutes / 60; minute = minutes % 60 }

minute_is : (m : ℕ) → minute_of (clock m) ≡ m
minute_is m = omega arith

last_bound : (begin last : ℕ) → IsTimeRange begin last → last ≤ 2879
last_bound begin last h = grind (arith, nat_tests, h.0, h.1)

are_times : (begin last : ℕ) → IsTimeRange begin last → AreWrittenTimes (clock begin) (clock last)
are_times begin last h =
    let high = last_bound begin last h in
    let early = h.0 in (
      (omega arith, omega arith),
      (omega arith, omega arith),
      subst (λ (n : ℕ). IsTimeRange n (minute_of (clock last))) (sym (minute_is begin))
          (subst (λ (n : ℕ). IsTimeRange begin n) (sym (minute_is last)) h),
    )

pub time_item : (x : TimeRange) → Item IsTimes (time_text x) (only_times (x ∷ [])) true
time_item x =
    let high = last_bound x.begin x.last x.in_range in
    record {
      p = piece.Times (clock x.begin) (clock x.last) ∷ [];
      us = token.Time (x.begin / 60) (x.begin % 60) ∷ token.Dash ∷ token.Time (x.last / 60) (x.last % 60) ∷ [];
      spelt = dashed (clock_text x.begin) (clock_text x.last) (token.Time (x.begin / 60) (x.begin % 60) ∷ [])
          (token.Time (x.last / 60) (x.last % 60) ∷ []) (clock_spelt x.begin (omega (arith, x.in_range.0)))
          (clock_spelt x.last (omega (arith, high)));
      one = λ later rest. record {
        begin = clock x.begin;
        last = clock x.last;
        tokens = refl;
        pieces = refl;
        range = are_times x.begin x.last x.in_range;
      };
      says = record {
        years = no_selectors;
        month_days = no_selectors;
        weeks = no_selectors;
        weekdays = no_weekdays;
        times = (sym (minute_is x.begin), sym (minute_is x.last), record {});
        closed = refl;
        one = refl;
      };
      front = λ rest. refl;
    }
