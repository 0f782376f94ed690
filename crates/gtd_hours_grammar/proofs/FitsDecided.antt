-- Whether the number, time, month or weekday that comes next fits is decided.
use Rattle.std.proofs.Common.{ℕ, ◌+◌, ◌*◌, ◌<◌, ◌≤◌, inl, inr, arith, Bool, true, false, ℤ, pos, Option, Some, None}
use Rattle.std.specs.Prelude.{◌+ℤ◌, ◌==◌}
use Rattle.std.proofs.lemmas.Bool.{cases_eq, cases_lt}
use Rattle.gtd_core.specs.facts.Deciding.{Decided, at_most as at_most_z, below as below_z}
use Rattle.gtd_hours.specs.Calendar.{IsDate, day_number, month_length}
use Rattle.gtd_hours.specs.Ranges.{IsDatedRange, IsTimeRange, IsYearDate, end_of}
use Rattle.gtd_hours_tokens.specs.declared.token.TokenKind.TheVariants as token
use Rattle.gtd_hours_parts.specs.Dates.{EndsOn, IsDayOfYear, IsWrittenDay, last_year}
use Rattle.gtd_hours_parts.specs.Numbers.{IsDayNumber, IsOffsetNumber, IsPlaceNumber, IsStepNumber, IsWeekNumber, IsYearNumber}
use Rattle.gtd_hours_parts.specs.Times.{IsBegin, minute_of}
use Rattle.gtd_hours_parts.specs.declared.clock.ClockTime.{ClockTime}
use Rattle.gtd_hours_parts.specs.declared.digits.Digits.{Digits}
use Rattle.gtd_hours_parts.specs.declared.piece.LastDate.{LastDate}
use Rattle.gtd_hours_parts.specs.declared.piece.LastDate.TheVariants as last_date
use Rattle.gtd_hours_parts.specs.declared.piece.WrittenDate.{WrittenDate}
use Rattle.gtd_hours_moves.specs.Terms.{TokenKind}
use Rattle.gtd_hours_moves.specs.declared.stage.Stage.{Stage}
use Rattle.gtd_hours_moves.specs.declared.place.Place.{Place}
use Rattle.gtd_hours_moves.specs.declared.place.Place.TheVariants as places
use Rattle.gtd_hours_moves.specs.declared.stage.Stage.TheVariants as stage
use Rattle.gtd_hours_parts.specs.Pieces.{AreWrittenTimes, EndsRange, IsDay, IsLastDay, IsRange, first_day_of, last_day_of}
use Rattle.gtd_hours_moves.specs.Sound.{Fits, ListedFits, MonthFits, NumberFits, TimeFits, YearOrDay, YearOrListed}
use Rattle.gtd_hours_moves.specs.Sound.{Reaches, is_last_year}

-- ---- what is decided part by part

two : {A B : Type 0} → Decided A → Decided B → Decided (A × B)
two (inl a) (inl b) = inl (a, b)
two (inl a) (inr never) = inr (λ h. never h.1)
two (inr never) b = inr (λ h. never h.0)

three : {A B C : Type 0} → Decided A → Decided B → Decided C → Decided (A × B × C)
three (inl a) (inl b) (inl d) = inl (a, b, d)
three (inl a) (inl b) (inr never) = inr (λ h. never h.2)
three (inl a) (inr never) d = inr (λ h. never h.1)
three (inr never) b d = inr (λ h. never h.0)

four : {A B C D : Type 0} → Decided A → Decided B → Decided C → Decided D → Decided (A × B × C × D)
four (inl a) (inl b) (inl d) (inl e) = inl (a, b, d, e)
four (inl a) (inl b) (inl d) (inr never) = inr (λ h. never h.3)
four (inl a) (inl b) (inr never) e = inr (λ h. never h.2)
four (inl a) (inr never) d e = inr (λ h. never h.1)
four (inr never) b d e = inr (λ h. never h.0)

at_most : (a b : ℕ) → Decided (a ≤ b)
at_most a b = elim (cases_lt b a) [ inl lt ↦ inr (λ le. omega (arith, le, lt)) | inr le ↦ inl le ]

below : (a b : ℕ) → Decided (a < b)
below a b = elim (cases_lt a b) [ inl lt ↦ inl lt | inr le ↦ inr (λ lt. omega (arith, le, lt)) ]

-- ---- numbers

year : (n : Digits) → Decided (IsYearNumber n)
year n = three (cases_eq n.count 4) (at_most 1800 n.value) (at_most n.value 2799)

day : (n : Digits) → Decided (IsDayNumber n)
day n = four (at_most 1 n.count) (at_most n.count 2) (at_most 1 n.value) (at_most n.value 31)

week : (n : Digits) → Decided (IsWeekNumber n)
week n = four (at_most 1 n.count) (at_most n.count 2) (at_most 1 n.value) (at_most n.value 53)

place : (n : Digits) → Decided (IsPlaceNumber n)
place n = three (cases_eq n.count 1) (at_most 1 n.value) (at_most n.value 5)

step : (n : Digits) → Decided (IsStepNumber n)
step n = four (at_most 1 n.count) (at_most n.count 4) (at_most 1 n.value) (at_most n.value 9999)

offset : (n : Digits) → Decided (IsOffsetNumber n)
offset n = four (at_most 1 n.count) (at_most n.count 2) (at_most 1 n.value) (at_most n.value 27)

reaches : (r : ℕ) (before : Bool) (n : ℕ) → Decided (Reaches r before n)
reaches r true n = below n r
reaches r false n = at_most 1 r

range : (Is : Digits → Type 0) → ((n : Digits) → Decided (Is n)) → (a b : Digits) → Decided (IsRange Is a b)
range Is one a b = three (one a) (one b) (at_most a.value b.value)

-- ---- dates

date : (y : ℤ) (m d : ℕ) → Decided (IsDate y m d)
date y m d = two (two (at_most 1 m) (at_most m 12)) (two (at_most 1 d) (at_most d (month_length y m)))

year_date : (y m d : ℕ) → Decided (IsYearDate y m d)
year_date y m d = two (two (at_most_z (pos 1800) (pos y)) (at_most_z (pos y) (pos 2799))) (date (pos y) m d)

written_day : (m : ℕ) (n : Digits) → Decided (IsWrittenDay m n)
written_day m n = two (day n) (date (pos 2000) m n.value)

day_of_year : (y m : ℕ) (n : Digits) → Decided (IsDayOfYear y m n)
day_of_year y m n = two (day n) (year_date y m n.value)

dated_range : (y m d z k e : ℕ) → Decided (IsDatedRange y m d z k e)
dated_range y m d z k e =
    two (at_most_z (day_number (pos y) m d) (day_number (pos z) k e))
    (below_z (day_number (pos z) k e) (day_number (pos y) m d +ℤ pos 36600))

ends_on : (y m d z k : ℕ) (n : Digits) → Decided (EndsOn y m d z k n)
ends_on y m d z k n = two (day_of_year z k n) (dated_range y m d z k n.value)

day_fits : (y : Option Digits) (m : ℕ) (n : Digits) → Decided (IsDay y m n)
day_fits None m n = written_day m n
day_fits (Some y) m n = day_of_year y.value m n

last_day : (first : Option Digits) (fm : ℕ) (fd : Digits) (y : Option Digits) (m : ℕ) (n : Digits)
    → Decided (IsLastDay first fm fd y m n)
last_day None fm fd None m n = written_day m n
last_day None fm fd (Some y) m n = inr (λ h. h)
last_day (Some first) fm fd None m n =
    ends_on first.value fm fd.value (last_year first.value fm fd.value m n.value) m n
last_day (Some first) fm fd (Some y) m n = two (year y) (ends_on first.value fm fd.value y.value m n)

ends_range : (first : WrittenDate) (last : LastDate) → Decided (EndsRange first last)
ends_range first (last_date.Day n) = last_day first.year first.month first.day None first.month n
ends_range first (last_date.Date x) = last_day first.year first.month first.day x.year x.month x.day

year_or_day : (b : Bool) (first : WrittenDate) (n : Digits) → Decided (YearOrDay b first n)
year_or_day true first n = year n
year_or_day false first n = ends_range first (last_date.Day n)

year_or_listed : (b : Bool) (y : Option Digits) (m : ℕ) (n : Digits) → Decided (YearOrListed b y m n)
year_or_listed true y m n = year n
year_or_listed false y m n = day_fits y m n

-- ---- times

begin : (t : ClockTime) → Decided (IsBegin t)
begin t = two (at_most t.hour 23) (at_most t.minute 59)

time_range : (a b : ℕ) → Decided (IsTimeRange a b)
time_range a b = two (below a 1440) (at_most (end_of a b) (a + 1440))

times : (a b : ClockTime) → Decided (AreWrittenTimes a b)
times a b =
    three (begin a) (two (at_most b.minute 59) (at_most (minute_of b) (48 * 60))) (time_range (minute_of a) (minute_of b))

-- ---- what comes next

listed_fits : (s : Stage) (n : Digits) → Decided (ListedFits s n)
listed_fits stage.Years n = year n
listed_fits stage.MonthDays n = year n
listed_fits stage.Weeks n = week n
listed_fits s n = inr (λ h. h)

number_fits : (at : Place) (n : Digits) → Decided (NumberFits at n)
number_fits places.Front n = year n
number_fits places.TwentyFourSlash n = two (cases_eq n.value 7) (cases_eq n.count 1)
number_fits (places.YearMonth y m) n = day_fits (Some y) m n
number_fits (places.YearMonthDash first m) n = range IsYearNumber year first n
number_fits (places.DateYearMonthDash first m) n = range IsYearNumber year first n
number_fits (places.YearDash first) n = range IsYearNumber year first n
number_fits (places.YearStep first last) n = step n
number_fits (places.YearSlash first) n = two (step n) (below 2799 (first.value + 128 * n.value))
number_fits (places.DateYearMonth y m) n = day_fits (Some y) m n
number_fits (places.Month m) n = day_fits None m n
number_fits (places.DateDash first) n = year_or_day (is_last_year first n) first n
number_fits (places.DateDashMonth first y m) n =
    ends_range first (last_date.Date (record { year = y; month = m; day = n }))
number_fits places.WeekWord n = week n
number_fits (places.WeekDash first) n = week n
number_fits (places.WeekStep first last) n = step n
number_fits (places.Bracket k r) n = place n
number_fits (places.BracketDash k r) n = place n
number_fits (places.NthDash k first r) n = range IsPlaceNumber place first n
number_fits (places.OffsetSign before r) n = two (offset n) (reaches r before n.value)
number_fits (places.AfterDate y m) n = year n
number_fits (places.CommaDate y m) n = year_or_listed (n.count == 4) y m n
number_fits (places.After s) n = year n
number_fits (places.Comma s) n = listed_fits s n
number_fits at n = inr (λ h. h)

time_fits : (at : Place) (t : ClockTime) → Decided (TimeFits at t)
time_fits (places.TimeDash a) t = times a t
time_fits at t = begin t

month_fits : (at : Place) (m : ℕ) → Decided (MonthFits at m)
month_fits (places.MonthsYear a k b) m = ends_range (first_day_of a k) (last_date.Date (last_day_of b m))
month_fits at m = two (at_most 1 m) (at_most m 12)

pub fits_decided : (at : Place) (next : Option TokenKind) → Decided (Fits at next)
fits_decided at (Some (token.Number v d)) = number_fits at (record { value = v; count = d })
fits_decided at (Some (token.Time h m)) = time_fits at (record { hour = h; minute = m })
fits_decided at (Some (token.Month m)) = month_fits at m
fits_decided at (Some (token.Weekday k)) = two (at_most 1 k) (at_most k 7)
fits_decided at next = inr (λ h. h)
