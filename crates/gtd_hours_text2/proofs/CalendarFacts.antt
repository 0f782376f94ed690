-- Dates of the years 1800 to 2799 are days of the calendar.
use Rattle.std.proofs.Common.{◌≡◌, refl, sym, arith, Bool, true, false, ◌&&◌, ◌≤◌, ◌+◌, ◌-◌, ℕ, ℤ, pos, neg_ℤ, ◌+ℤ◌, ◌≤ℤ◌, ◌<ℤ◌}
use Rattle.std.proofs.lemmas.Bool.{leb-true, true≢false}
use Rattle.std.proofs.lemmas.Int.{by_lt_z}
use Rattle.std.specs.Prelude.{nat_le}
use Rattle.gtd_hours_text2.specs.Dated.{is_in, is_year}
use Rattle.gtd_calendar.specs.facts.Signed.{signed_arith}
use Rattle.gtd_calendar.specs.Calendar.{IsCalendarDay, IsCalendarYear, IsDateOf, day_number, days_of_months, first_day, year_length}
use Rattle.gtd_calendar.specs.facts.DateLemmas.{day_number-in_year}
use Rattle.gtd_calendar.specs.facts.YearLemmas.{first_day-later, first_day-more}

first_day-1800 : first_day (pos 1800) ≡ neg_ℤ (pos 62_091)
unfolding first_day
first_day-1800 = refl

first_day-2800 : first_day (pos 2800) ≡ pos 303_151
unfolding first_day
first_day-2800 = refl

not_before : (y : ℤ) → pos 1800 ≤ℤ y → neg_ℤ (pos 62_091) ≤ℤ first_day y
not_before y low =
    by_lt_z (pos 1800) y (λ lt. rw first_day-1800 at (first_day-more (pos 1800) y lt))
    (λ le. let e : y ≡ pos 1800 = omega (arith, signed_arith, le, low) in rw (e, first_day-1800) (omega (arith, signed_arith)))

pub in_calendar : (n y : ℤ) (m d : ℕ) → IsCalendarYear y → IsDateOf n y m d → IsCalendarDay n
in_calendar n y m d range h =
    let lies = day_number-in_year y m d h.0 in
    let high = range.1 in
    let to = rw first_day-2800 at (first_day-later y (pos 2800) (omega (arith, signed_arith, high))) in
    rw h.1 (within (day_number y m d) (first_day y) (first_day y +ℤ pos (year_length y)) lies.0 lies.1 (not_before y range.0) to)
  where
    within : (n a b : ℤ) → a ≤ℤ n → n <ℤ b → neg_ℤ (pos 62_091) ≤ℤ a → b ≤ℤ pos 303_151 → IsCalendarDay n
    within n a b p q low high = (omega (arith, signed_arith, p, low), omega (arith, signed_arith, q, high))

pub calendar_year : (y : ℕ) → 1800 ≤ y → y ≤ 2799 → IsCalendarYear (pos y)
calendar_year y low high = (omega (arith, signed_arith, low), omega (arith, signed_arith, high))

-- a day of a month from its first day on
pub from_first : (y : ℤ) (m d : ℕ) → day_number y m 1 +ℤ pos (d - 1) ≡ day_number y m d
unfolding day_number
from_first y m d = sum (first_day y) (days_of_months y (m - 1)) (d - 1)
  where
    sum : (a : ℤ) (p k : ℕ) → (a +ℤ pos (p + (1 - 1))) +ℤ pos k ≡ a +ℤ pos (p + k)
    sum a p k = omega (arith, signed_arith)

-- ---- numbers in a range

first_true : (a b : Bool) → (a && b) ≡ true → a ≡ true
first_true true b h = refl
first_true false b h = h

second_true : (a b : Bool) → (a && b) ≡ true → b ≡ true
second_true true b h = h
second_true false b h = absurd (true≢false (sym h))

pub in_range : (low high k : ℕ) → is_in low high k ≡ true → (low ≤ k) × (k ≤ high)
in_range low high k h = (
  leb-true low k (first_true (nat_le low k) (nat_le k high) h),
  leb-true k high (second_true (nat_le low k) (nat_le k high) h),
)

pub year_in : (y : ℕ) → is_year y ≡ true → (1800 ≤ y) × (y ≤ 2799)
year_in y h = in_range 1800 2799 y h

pub calendar_in : (y : ℕ) → is_year y ≡ true → IsCalendarYear (pos y)
calendar_in y h = calendar_year y (year_in y h).0 (year_in y h).1

pub parts_in : (a b c : Bool) → (a && b && c) ≡ true → (a ≡ true) × (b ≡ true) × (c ≡ true)
parts_in true true true h = (refl, refl, refl)
parts_in false b c h = absurd (true≢false (sym h))
parts_in true false c h = absurd (true≢false (sym h))
parts_in true true false h = absurd (true≢false (sym h))
