-- Dates that each year has, and the years of days.
use Rattle.std.proofs.Common.{◌≡◌, ◌∙◌, sym, refl, arith, ◌<◌, ◌≤◌, inl, inr, ℕ, ℤ, pos, neg_ℤ, ◌+ℤ◌, ◌-ℤ◌}
use Rattle.std.proofs.Common.{◌≤ℤ◌, ◌<ℤ◌, subst}
use Rattle.gtd_calendar.specs.ComputedDates.{year_of}
use Rattle.std.proofs.lemmas.Bool.{cases_eq}
use Rattle.std.proofs.lemmas.Int.{by_lt_z}
use Rattle.gtd_calendar.specs.facts.Signed.{signed_arith}
use Rattle.gtd_calendar.specs.Calendar.{IsCalendarDay, IsDate, IsDateOf, day_number, first_day, month_length, year_length}
use Rattle.gtd_calendar.specs.facts.DateLemmas.{date-unique, date_of-only, day_number-in_year}
use Rattle.gtd_calendar.specs.facts.OrderLemmas.{year_of-calendar}
use Rattle.gtd_calendar.specs.facts.YearLemmas.{first_day-more, first_day-next}
use Rattle.gtd_hours.specs.Yearly.{IsMonthDayOf}

-- ---- dates that each year has

pub common_length : (y : ℤ) (m : ℕ) → month_length (pos 2001) m ≤ month_length y m
common_length y m = grind arith

pub each_year : (y : ℤ) (m d : ℕ) → IsDate (pos 2001) m d → IsDate y m d
each_year y m d h =
    let long = common_length y m in
    (h.0, (h.1.0, omega (arith, h.1.1, long)))

other_length : (y : ℤ) (m : ℕ) → (m ≡ 2 → ⊥) → month_length y m ≡ month_length (pos 2001) m
other_length y m not = grind arith

february : (y : ℤ) (m : ℕ) → m ≡ 2 → (month_length y m ≤ 29) × (month_length (pos 2001) m ≡ 28)
february y m two = rw two (grind arith, grind arith)

pub no_leap_day : (y : ℤ) (m d : ℕ) → IsDate y m d → ((m ≡ 2) × (d ≡ 29) → ⊥) → IsDate (pos 2001) m d
no_leap_day y m d h not = (
  h.0,
  (
    h.1.0,
    elim (cases_eq m 2) [
      | inl two ↦ (let long = february y m two in
          let other : d ≡ 29 → ⊥ = (λ e. not (two, e)) in
          short d (month_length y m) (month_length (pos 2001) m) h.1.1 long.0 long.1 other)
      | inr other ↦ (let same = other_length y m other in rw same at h.1.1)
    ],
  ),
)
  where
    short : (d a b : ℕ) → d ≤ a → a ≤ 29 → b ≡ 28 → (d ≡ 29 → ⊥) → d ≤ b
    short d a b h low e not = omega (arith, h, low, e, not)

-- 2001 has no 29 February
pub not_leap : (m d : ℕ) → IsDate (pos 2001) m d → m ≡ 2 → d ≡ 29 → ⊥
not_leap m d h two e = let long = (february (pos 2001) m two).1 in omega (arith, h.1.1, long, e)

-- a day has one month and one day of it
pub one_month_day : (m d k c : ℕ) (n : ℤ) → IsMonthDayOf m d n → IsMonthDayOf k c n → (m ≡ k) × (d ≡ c)
one_month_day m d k c n h g = let same = date-unique n h.0 g.0 m d k c h.1 g.1 in (same.1, same.2)

-- ---- years

pub in_order : (a b : ℤ) → a ≤ℤ b → first_day a ≤ℤ first_day b
in_order a b h =
    by_lt_z a b (λ lt. first_day-more a b lt)
    (λ ge. let e : a ≡ b = omega (arith, signed_arith, h, ge) in rw e (omega (arith, signed_arith)))

pub long_year : (y : ℤ) → (365 ≤ year_length y) × (year_length y ≤ 366)
long_year y = (grind arith, grind arith)

-- the year of a day's date
pub in_year : (n y : ℤ) (m d : ℕ) → IsDateOf n y m d → (first_day y ≤ℤ n) × (n <ℤ first_day (y +ℤ pos 1))
in_year n y m d h =
    let lies = day_number-in_year y m d h.0 in
    let next = first_day-next y in
    there n (day_number y m d) (first_day y) (first_day (y +ℤ pos 1)) (year_length y) h.1 next lies.0 lies.1
  where
    there : (n k a b : ℤ) (l : ℕ) → n ≡ k → b ≡ a +ℤ pos l → a ≤ℤ k → k <ℤ (a +ℤ pos l) → (a ≤ℤ n) × (n <ℤ b)
    there n k a b l e f p q = (omega (arith, signed_arith, e, p), omega (arith, signed_arith, e, f, q))

-- a day of some years comes less than a year and a day after a date of one of these years, or of the year before
pub year_placed : (n y f l : ℤ) (m d k : ℕ) → first_day f ≤ℤ n → n <ℤ first_day (l +ℤ pos 1) → k < 366
    → IsDateOf (n -ℤ pos k) y m d → ((f -ℤ pos 1) ≤ℤ y) × (y ≤ℤ l)
year_placed n y f l m d k low high few h =
    let lies = in_year (n -ℤ pos k) y m d h in (
      by_lt_z y (f -ℤ pos 1)
          (λ lt. let before = in_order (y +ℤ pos 1) (f -ℤ pos 1) (omega (arith, signed_arith, lt)) in
          let next = first_day-next (f -ℤ pos 1) in
          let same : f -ℤ pos 1 +ℤ pos 1 ≡ f = omega (arith, signed_arith) in
          absurd (early n k (first_day (y +ℤ pos 1)) (first_day (f -ℤ pos 1)) (first_day f) (year_length (f -ℤ pos 1)) low few
          lies.1 before (rw same at next) (long_year (f -ℤ pos 1)).0))
          (λ ge. ge),
      by_lt_z l y
          (λ lt. let after = in_order (l +ℤ pos 1) y (omega (arith, signed_arith, lt)) in
          absurd (late n k (first_day (l +ℤ pos 1)) (first_day y) high lies.0 after))
          (λ ge. ge),
    )
  where
    early : (n : ℤ) (k : ℕ) (a b c : ℤ) (long : ℕ) → c ≤ℤ n → k < 366 → (n -ℤ pos k) <ℤ a → a ≤ℤ b → c ≡ b +ℤ pos long
        → 365 ≤ long → ⊥
    early n k a b c long low few lt le e l = omega (arith, signed_arith, low, few, lt, le, e, l)

    late : (n : ℤ) (k : ℕ) (a b : ℤ) → n <ℤ a → b ≤ℤ (n -ℤ pos k) → a ≤ℤ b → ⊥
    late n k a b lt low le = omega (arith, signed_arith, lt, low, le)

-- ---- the days of the years 1800 to 2799

pub first_day-1800 : first_day (pos 1800) ≡ neg_ℤ (pos 62_091)
unfolding first_day
first_day-1800 = refl

pub first_day-2800 : first_day (pos 2800) ≡ pos 303_151
unfolding first_day
first_day-2800 = refl

pub in_calendar : (n : ℤ) (y m d : ℕ) → 1800 ≤ y → y ≤ 2799 → IsDateOf n (pos y) m d → IsCalendarDay n
in_calendar n y m d low high h =
    let lies = in_year n (pos y) m d h in
    let a = in_order (pos 1800) (pos y) (omega (arith, signed_arith, low)) in
    let b = in_order (pos y +ℤ pos 1) (pos 2800) (omega (arith, signed_arith, high)) in
    within n (first_day (pos y)) (first_day (pos y +ℤ pos 1)) lies.0 lies.1 (rw first_day-1800 at a) (rw first_day-2800 at b)
  where
    within : (n a b : ℤ) → a ≤ℤ n → n <ℤ b → neg_ℤ (pos 62_091) ≤ℤ a → b ≤ℤ pos 303_151 → IsCalendarDay n
    within n a b p q low high = (omega (arith, signed_arith, p, low), omega (arith, signed_arith, q, high))

-- the year of a day is that of its date
pub year_known : (n y : ℤ) (x m d : ℕ) → IsDateOf n y m d → pos x ≡ year_of n → IsDateOf n (pos x) m d
year_known n y x m d h e =
    let only = date_of-only n y m d h in subst (λ (z : ℤ). IsDateOf n z m d) (only.0 ∙ sym e) h

pub known_year : (n y : ℤ) (m d : ℕ) → IsDateOf n y m d → IsCalendarDay n → (pos 1800 ≤ℤ y) × (y ≤ℤ pos 2799)
known_year n y m d h day = let only = date_of-only n y m d h in rw only.0 (year_of-calendar n day)

pub year_only : (n y : ℤ) (m d : ℕ) → IsDateOf n y m d → y ≡ year_of n
year_only n y m d h = (date_of-only n y m d h).0
