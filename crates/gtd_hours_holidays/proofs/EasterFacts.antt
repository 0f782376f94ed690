-- Easter Sunday is a Sunday, from 22 March to 25 April.
use Rattle.std.proofs.Common.{◌≡◌, ◌∙◌, sym, refl, inl, inr, arith, ◌<◌, ◌≤◌, ◌+◌, ◌-◌, ◌*◌, ◌/◌, ◌%◌, ℕ, ℤ, pos, ◌+ℤ◌, ◌-ℤ◌}
use Rattle.std.proofs.Common.{◌*ℤ◌, ◌≤ℤ◌}
use Rattle.std.proofs.lemmas.Bool.{cases_lt}
use Rattle.std.specs.Int.{int_rem_euclid}
use Rattle.gtd_calendar.specs.facts.Signed.{signed_arith}
use Rattle.gtd_calendar.specs.Calendar.{day_number, days_of_months, first_day, weekday_of, year_length}
use Rattle.gtd_calendar.specs.facts.DateLemmas.{days_of_months-year}
use Rattle.gtd_calendar.specs.facts.YearLemmas.{first_day-next}
use Rattle.gtd_hours_holidays.specs.Easter.{IsEaster, after_equinox, forward, moon, week}

-- ---- where it lies

-- the months from March to December have 306 days
ten_months : (y : ℤ) → days_of_months y 12 ≡ days_of_months y 2 + 306
unfolding days_of_months
ten_months y = omega arith

-- 1 March is 306 days before the next year
march : (y : ℤ) → first_day (y +ℤ pos 1) ≡ day_number y 3 1 +ℤ pos 306
unfolding day_number
march y =
    chain (first_day (y +ℤ pos 1)) (first_day y) (year_length y) (days_of_months y 2) (first_day-next y)
    (sym (days_of_months-year y) ∙ ten_months y)
  where
    chain : (a b : ℤ) (n k : ℕ) → a ≡ b +ℤ pos n → n ≡ k + 306 → a ≡ (b +ℤ pos (k + (1 - 1))) +ℤ pos 306
    chain a b n k e f = omega (arith, signed_arith, e, f)

april : (y : ℤ) → days_of_months y 3 ≡ days_of_months y 2 + 31
unfolding days_of_months
april y = omega arith

-- a day of March or April, counted from 22 March
from_march : (y : ℤ) (k : ℕ) → k < 35
    → day_number y ((k + 114) / 31) ((k + 114) % 31 + 1) ≡ day_number y 3 1 +ℤ pos (k + 21)
unfolding day_number
from_march y k few = elim (cases_lt k 10) [
  | inl first ↦ (let m : (k + 114) / 31 ≡ 3 = omega (arith, first) in
      let d : (k + 114) % 31 ≡ k + 21 = omega (arith, first) in
      rw (m, d) (there (first_day y) (days_of_months y 2) k))
  | inr later ↦ (let m : (k + 114) / 31 ≡ 4 = omega (arith, later, few) in
      let d : (k + 114) % 31 ≡ k - 10 = omega (arith, later, few) in
      rw (m, d) (after (first_day y) (days_of_months y 2) (days_of_months y 3) k later (april y)))
]
  where
    there : (a : ℤ) (b k : ℕ) → a +ℤ pos (b + (k + 21 + 1 - 1)) ≡ (a +ℤ pos (b + (1 - 1))) +ℤ pos (k + 21)
    there a b k = omega (arith, signed_arith)

    after : (a : ℤ) (b c k : ℕ) → 10 ≤ k → c ≡ b + 31
        → a +ℤ pos (c + (k - 10 + 1 - 1)) ≡ (a +ℤ pos (b + (1 - 1))) +ℤ pos (k + 21)
    after a b c k low e = omega (arith, signed_arith, low, e)

-- the rule brings Easter forward only from the last days
few_days : (a m w : ℕ) → a < 19 → m < 30 → w < 7
    → (7 * ((a + 11 * m + 22 * w) / 451) ≤ m + w) × (m + w < 35 + 7 * ((a + 11 * m + 22 * w) / 451))
few_days a m w p q r = (omega (arith, p, q, r), omega (arith, p, q, r))

mod_below : (n : ℕ) → (n % 19 < 19) × (n % 30 < 30) × (n % 7 < 7)
mod_below n = (omega arith, omega arith, omega arith)

module _ (y : ℕ) where
  few : (7 * forward y ≤ moon y + week y) × (moon y + week y < 35 + 7 * forward y)
  few = few_days (y % 19) (moon y) (week y) (mod_below y).0 (mod_below _).1 (mod_below _).2

  short : after_equinox y < 35
  short = at (moon y + week y) (7 * forward y) few.1
    where
      at : (a b : ℕ) → a < 35 + b → a - b < 35
      at a b h = omega (arith, h)

  module _ (n : ℤ) (is : IsEaster y n) where
    placed : n ≡ day_number (pos y) 3 1 +ℤ pos (after_equinox y + 21)
    placed = is ∙ from_march (pos y) (after_equinox y) short

between_days : (m n : ℤ) (k : ℕ) → n ≡ m +ℤ pos (k + 21) → k < 35 → ((m +ℤ pos 21) ≤ℤ n) × (n ≤ℤ (m +ℤ pos 55))
between_days m n k e few = (omega (arith, signed_arith, e), omega (arith, signed_arith, e, few))

pub between : (y : ℕ) (n : ℤ) → IsEaster y n → (day_number (pos y) 3 22 ≤ℤ n) × (n ≤ℤ day_number (pos y) 4 25)
between y n is =
    let first : day_number (pos y) 3 22 ≡ day_number (pos y) 3 1 +ℤ pos 21 = from_march (pos y) 0 (omega arith) in
    let last : day_number (pos y) 4 25 ≡ day_number (pos y) 3 1 +ℤ pos 55 = from_march (pos y) 34 (omega arith) in
    rw (first, last) (between_days (day_number (pos y) 3 1) n (after_equinox y) (placed y n is) (short y))

-- ---- which day of the week it is

-- the first day of a year, and the days of the rule
first_is : (d e i k y : ℕ) → y ≡ 400 * d + 100 * e + 4 * i + k → e < 4 → i < 25 → k < 4
    → first_day (pos y +ℤ pos 1)
    ≡ (pos 365 *ℤ (pos y -ℤ pos 1969) +ℤ (pos (100 * d + 25 * e + i) -ℤ pos (4 * d + e) +ℤ pos d)) -ℤ pos 477
unfolding first_day
first_is d e i k y years few short low = omega (arith, signed_arith, years, few, short, low)

week_is : (e i h k : ℕ) → h < 30 → k < 4
    → (32 + 2 * e + 2 * i - h - k) % 7 + 7 * ((32 + 2 * e + 2 * i - h - k) / 7) + h + k ≡ 32 + 2 * e + 2 * i
week_is e i h k few low = omega (arith, few, low)

years_of : (y : ℕ) → y ≡ 400 * (y / 100 / 4) + 100 * (y / 100 % 4) + 4 * (y % 100 / 4) + y % 100 % 4
years_of y = omega arith

-- Of the years y = 400 d + 100 e + 4 i + k: the days that the rule adds make whole weeks of those of the years.
whole_weeks : (d e i k h w f q y : ℕ) (first n : ℤ) → y ≡ 400 * d + 100 * e + 4 * i + k
    → w + 7 * q + h + k ≡ 32 + 2 * e + 2 * i
    → first ≡ (pos 365 *ℤ (pos y -ℤ pos 1969) +ℤ (pos (100 * d + 25 * e + i) -ℤ pos (4 * d + e) +ℤ pos d)) -ℤ pos 477
    → n +ℤ pos (306 + 7 * f) ≡ first +ℤ pos (h + w + 21)
    → int_rem_euclid (n +ℤ pos 4) (pos 7) ≡ pos 0
whole_weeks d e i k h w f q y first n years week begins day = omega (arith, signed_arith, years, week, begins, day)

later_day : (first m n : ℤ) (h w f : ℕ) → first ≡ m +ℤ pos 306 → n ≡ m +ℤ pos (h + w - 7 * f + 21) → 7 * f ≤ h + w
    → n +ℤ pos (306 + 7 * f) ≡ first +ℤ pos (h + w + 21)
later_day first m n h w f e g le = omega (arith, signed_arith, e, g, le)

pub sunday : (y : ℕ) (n : ℤ) → IsEaster y n → weekday_of n ≡ 1
unfolding weekday_of
sunday y n is =
    let d = y / 100 / 4 in
    let e = y / 100 % 4 in
    let i = y % 100 / 4 in
    let k = y % 100 % 4 in
    let years = years_of y in
    let begins = first_is d e i k y years (omega arith) (omega arith) (omega arith) in
    let day = later_day (first_day (pos y +ℤ pos 1)) (day_number (pos y) 3 1) n (moon y) (week y) (forward y) (march (pos y))
    (placed y n is) (few y).0 in
    let rest = whole_weeks d e i k (moon y) (week y) (forward y) ((32 + 2 * e + 2 * i - moon y - k) / 7) y
    (first_day (pos y +ℤ pos 1)) n years (week_is e i (moon y) k (mod_below _).1 (omega arith)) begins day in
    rw rest refl
