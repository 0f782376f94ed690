-- Where the days of dates with years lie.
use Rattle.std.proofs.Common.{◌≡◌, refl, sym, subst, ℕ, ◌≤◌, ℤ, pos, neg_ℤ, ◌+ℤ◌, ◌≤ℤ◌, ◌<ℤ◌, arith}
use Rattle.std.proofs.lemmas.Int.{by_lt_z}
use Rattle.gtd_hours.specs.Ranges.{IsYearDate}
use Rattle.gtd_calendar.specs.facts.Signed.{signed_arith}
use Rattle.gtd_calendar.specs.Calendar.{IsCalendarDay, IsCalendarYear, IsDate, IsDateOf, day_number, first_day, year_length}
use Rattle.gtd_calendar.specs.facts.DateLemmas.{date_of-only, day_number-in_year}
use Rattle.gtd_calendar.specs.facts.OrderLemmas.{year_of-calendar}
use Rattle.gtd_calendar.specs.facts.YearLemmas.{first_day-later, first_day-more}

first-small : (y : ℤ) → pos 1800 ≤ℤ y → y ≤ℤ pos 2799 → (neg_ℤ (pos 70000) ≤ℤ first_day y) × (first_day y ≤ℤ pos 309000)
unfolding first_day
first-small y low high = (omega (arith, signed_arith), omega (arith, signed_arith))

-- the days of the dates that are computed with
pub date-small : (n y : ℤ) (m d : ℕ) → (pos 1800 ≤ℤ y) × (y ≤ℤ pos 2799) → IsDateOf n y m d
    → (neg_ℤ (pos 70000) ≤ℤ n) × (n ≤ℤ pos 310000)
date-small n y m d range h =
    let lies = day_number-in_year y m d h.0 in
    let year = first-small y range.0 range.1 in
    rw h.1 (near (day_number y m d) (first_day y) (year_length y) lies.0 lies.1 (year-long y) year.0 year.1)
  where
    year-long : (y : ℤ) → year_length y ≤ 366
    year-long y = grind arith

    near : (n a : ℤ) (long : ℕ) → a ≤ℤ n → n <ℤ (a +ℤ pos long) → long ≤ 366 → neg_ℤ (pos 70000) ≤ℤ a → a ≤ℤ pos 309000
        → (neg_ℤ (pos 70000) ≤ℤ n) × (n ≤ℤ pos 310000)
    near n a long p q r low high = (omega (arith, signed_arith), omega (arith, signed_arith))

first_day-1800 : first_day (pos 1800) ≡ neg_ℤ (pos 62_091)
unfolding first_day
first_day-1800 = refl

first_day-2800 : first_day (pos 2800) ≡ pos 303_151
unfolding first_day
first_day-2800 = refl

not-before : (y : ℤ) → pos 1800 ≤ℤ y → neg_ℤ (pos 62_091) ≤ℤ first_day y
not-before y low =
    by_lt_z (pos 1800) y (λ lt. rw first_day-1800 at (first_day-more (pos 1800) y lt))
    (λ le. let e : y ≡ pos 1800 = omega (arith, signed_arith, le, low) in rw (e, first_day-1800) (omega (arith, signed_arith)))

-- a date of these years is a day of the calendar
pub in-calendar : (n y : ℤ) (m d : ℕ) → IsCalendarYear y → IsDateOf n y m d → IsCalendarDay n
in-calendar n y m d range h =
    let lies = day_number-in_year y m d h.0 in
    let high = range.1 in
    let to = rw first_day-2800 at (first_day-later y (pos 2800) (omega (arith, signed_arith, high))) in
    rw h.1 (within (day_number y m d) (first_day y) (first_day y +ℤ pos (year_length y)) lies.0 lies.1 (not-before y range.0) to)
  where
    within : (n a b : ℤ) → a ≤ℤ n → n <ℤ b → neg_ℤ (pos 62_091) ≤ℤ a → b ≤ℤ pos 303_151 → IsCalendarDay n
    within n a b p q low high = (omega (arith, signed_arith, p, low), omega (arith, signed_arith, q, high))

-- and a day of the calendar has a date of these years
pub year-in : (n y : ℤ) (m d : ℕ) → IsCalendarDay n → IsDateOf n y m d → IsCalendarYear y
year-in n y m d h date = rw (sym (date_of-only n y m d date).0) at (year_of-calendar n h)

pub date-in : (n y : ℤ) (k m d : ℕ) → IsCalendarDay n → IsDateOf n y m d → pos k ≡ y → IsYearDate k m d
date-in n y k m d h date same =
    let year = year-in n y m d h date in (
      subst (λ (z : ℤ). IsCalendarYear z) (sym same) year,
      subst (λ (z : ℤ). IsDate z m d) (sym same) date.0,
    )
