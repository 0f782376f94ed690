-- Days are in the order of their years and months.
use Rattle.std.proofs.Common.{◌≡◌, ℕ, ◌+◌, ◌-◌, ◌<◌, ◌≤◌, ◌⊎◌, inl, inr, refl, sym, arith, ℤ, pos, ◌+ℤ◌}
use Rattle.std.proofs.Common.{◌<ℤ◌, ◌≤ℤ◌}
use Rattle.std.proofs.lemmas.Bool.{cases_lt}
use Rattle.std.proofs.lemmas.Int.{by_lt_z}
use Rattle.std.specs.Int.{IsInRange}
use Rattle.gtd_core.specs.Limits.{first_calendar_day, last_calendar_day}
use Rattle.jiff_core.proofs.SignedLemmas.{signed_arith}
use Rattle.gtd_calendar.specs.Calendar.{day_number, first_day, year_length, days_of_months}
use Rattle.gtd_calendar.specs.facts.YearLemmas.{first_day-later, first_day-more}
use Rattle.gtd_calendar.specs.facts.DateLemmas.{date_of-is, day_number-in_year, days_of_months_mono, days_of_months-next}
use Rattle.gtd_calendar.specs.facts.DateLemmas.{month_length_bounds}
use Rattle.gtd_calendar.specs.Calendar.{month_length, IsCalendarDay}
use Rattle.gtd_calendar.specs.ComputedDates.{year_of, month_of, day_of_month}

-- the year and month of one day come before those of another
abbrev pub IsBefore : ℤ → ℕ → ℤ → ℕ → Type 0
IsBefore y m z k = (y <ℤ z) ⊎ ((y ≡ z) × (m < k))

-- a year and month are before a second, or the second is not after them
cases_before : (y z : ℤ) (m k : ℕ) → IsBefore y m z k ⊎ ((z <ℤ y) ⊎ ((z ≡ y) × (k ≤ m)))
cases_before y z m k =
    by_lt_z y z (λ lt. inl (inl lt)) (λ ge. by_lt_z z y (λ gt. inr (inl gt))
    (λ le. let e : y ≡ z = omega (arith, signed_arith) in
    elim (cases_lt m k) [ inl lt ↦ inl (inr (e, lt)) | inr ge ↦ inr (inr (sym e, ge)) ]))

same_year : (n : ℤ) (m : ℕ) → IsInRange 1 12 m → m ≤ month_of n → day_number (year_of n) m 1 ≤ℤ n
unfolding day_number
same_year n m h le =
    let date = date_of-is n in
    let more = days_of_months_mono (year_of n) (m - 1) (month_of n - 1) (omega arith) in
    chain n (first_day (year_of n)) (days_of_months (year_of n) (m - 1)) (days_of_months (year_of n) (month_of n - 1))
    (day_of_month n) date.1 more
  where
    chain : (n a : ℤ) (p q d : ℕ) → n ≡ a +ℤ pos (q + (d - 1)) → p ≤ q → (a +ℤ pos (p + (1 - 1))) ≤ℤ n
    chain n a p q d e le = omega (arith, signed_arith)

-- the first of a month that is not after that of a day is not after the day
first_of_month-le : (n y : ℤ) (m : ℕ) → IsInRange 1 12 m → (y <ℤ year_of n) ⊎ ((y ≡ year_of n) × (m ≤ month_of n))
    → day_number y m 1 ≤ℤ n
first_of_month-le n y m h (inl lt) =
    let date = date_of-is n in
    let long = month_length_bounds y m in
    let here = day_number-in_year y m 1 (h, (omega arith, omega arith)) in
    let there = rw (← date.1) at (day_number-in_year (year_of n) (month_of n) (day_of_month n) date.0) in
    let far = first_day-later y (year_of n) lt in
    chain (day_number y m 1) (first_day y +ℤ pos (year_length y)) (first_day (year_of n)) n here.1 far there.0
  where
    chain : (a b c d : ℤ) → a <ℤ b → b ≤ℤ c → c ≤ℤ d → a ≤ℤ d
    chain a b c d p q r = omega (arith, signed_arith)
first_of_month-le n y m h (inr e) = rw e.0 (same_year n m h e.1)

-- a day before the first of a month is of an earlier month
pub before_month : (n y : ℤ) (m : ℕ) → IsInRange 1 12 m → n <ℤ day_number y m 1 → IsBefore (year_of n) (month_of n) y m
before_month n y m h lt =
    elim (cases_before (year_of n) y (month_of n) m) [
      | inl before ↦ before
      | inr after ↦ absurd (apart n (day_number y m 1) lt (first_of_month-le n y m h after))
    ]
  where
    apart : (a b : ℤ) → a <ℤ b → b ≤ℤ a → ⊥
    apart a b p q = omega (arith, signed_arith)

-- a day of an earlier month is before the first of the month
pub before_first : (n y : ℤ) (m : ℕ) → IsInRange 1 12 m → IsBefore (year_of n) (month_of n) y m → n <ℤ day_number y m 1
unfolding day_number
before_first n y m h (inl lt) =
    let date = date_of-is n in
    let here = rw (← date.1) at (day_number-in_year (year_of n) (month_of n) (day_of_month n) date.0) in
    let far = first_day-later (year_of n) y lt in
    chain n (first_day (year_of n) +ℤ pos (year_length (year_of n))) (first_day y) (days_of_months y (m - 1)) here.1 far
  where
    chain : (n a b : ℤ) (p : ℕ) → n <ℤ a → a ≤ℤ b → n <ℤ (b +ℤ pos (p + (1 - 1)))
    chain n a b p lt le = omega (arith, signed_arith)
before_first n y m h (inr e) =
    let date = date_of-is n in
    let back : month_of n - 1 + 1 ≡ month_of n = omega arith in
    let next = rw back at (days_of_months-next (year_of n) (month_of n - 1)) in
    let more = days_of_months_mono (year_of n) (month_of n) (m - 1) (omega arith) in
    rw (← e.0) (chain n (first_day (year_of n)) (days_of_months (year_of n) (month_of n - 1))
    (days_of_months (year_of n) (month_of n)) (days_of_months (year_of n) (m - 1))
    (month_length (year_of n) (month_of n)) (day_of_month n) date.0.1.1 date.0.1.0 date.1 next more)
  where
    chain : (n a : ℤ) (p q r long d : ℕ) → d ≤ long → 1 ≤ d → n ≡ a +ℤ pos (p + (d - 1)) → q ≡ p + long → q ≤ r
        → n <ℤ (a +ℤ pos (r + (1 - 1)))
    chain n a p q r long d fits low e next more = omega (arith, signed_arith)

first_day-2800 : first_day (pos 2800) ≡ pos 303_151
unfolding first_day
first_day-2800 = refl

-- a month after the calendar's last year begins after its last day
pub after_calendar : (y : ℤ) (m : ℕ) → IsInRange 1 12 m → pos 2800 ≤ℤ y → pos 303_151 ≤ℤ day_number y m 1
after_calendar y m h late =
    let long = month_length_bounds y m in
    let here = day_number-in_year y m 1 (h, (omega arith, omega arith)) in
    let first : pos 303_151 ≤ℤ first_day y =
    by_lt_z (pos 2800) y (λ lt. rw first_day-2800 at (first_day-more (pos 2800) y lt))
    (λ le. let e : y ≡ pos 2800 = omega (arith, signed_arith) in rw (e, first_day-2800)
    (omega (arith, signed_arith))) in
    chain (first_day y) (day_number y m 1) first here.0
  where
    chain : (a b : ℤ) → pos 303_151 ≤ℤ a → a ≤ℤ b → pos 303_151 ≤ℤ b
    chain a b p q = omega (arith, signed_arith)

first_day-1800 : day_number (pos 1800) 1 1 ≡ first_calendar_day
unfolding day_number first_day days_of_months
first_day-1800 = refl

-- the calendar's days are of its years
pub year_of-calendar : (n : ℤ) → IsCalendarDay n → (pos 1800 ≤ℤ year_of n) × (year_of n ≤ℤ pos 2799)
year_of-calendar n h = (
  by_lt_z (year_of n) (pos 1800)
      (λ lt. absurd (early n (before_first n (pos 1800) 1 (omega arith, omega arith) (inl lt)) h)) (λ le. le),
  by_lt_z (pos 2799) (year_of n)
      (λ lt. absurd (late n (year_of n) (month_of n) (date_of-is n).0.0 lt (same_year n (month_of n) (date_of-is n).0.0
      (omega arith)) h)) (λ le. le),
)
  where
    early : (n : ℤ) → n <ℤ day_number (pos 1800) 1 1 → IsCalendarDay n → ⊥
    early n lt h = apart n (rw first_day-1800 at lt) h.0
      where
        apart : (n : ℤ) → n <ℤ first_calendar_day → first_calendar_day ≤ℤ n → ⊥
        apart n p q = omega (arith, signed_arith)

    late : (n y : ℤ) (m : ℕ) → IsInRange 1 12 m → pos 2799 <ℤ y → day_number y m 1 ≤ℤ n → IsCalendarDay n → ⊥
    late n y m h lt le day = apart n (day_number y m 1) (after_calendar y m h (omega (arith, signed_arith))) le day.1
      where
        apart : (n a : ℤ) → pos 303_151 ≤ℤ a → a ≤ℤ n → n ≤ℤ last_calendar_day → ⊥
        apart n a p q r = omega (arith, signed_arith)
