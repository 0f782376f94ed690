-- Each day has one date.
use Rattle.std.proofs.Common.{◌≡◌, ℕ, zero, suc, ◌+◌, ◌-◌, ◌<◌, ◌≤◌, cond, nat_le, refl}
use Rattle.std.proofs.Common.{sym, ◌∙◌, arith, ℤ, pos, ◌+ℤ◌, ◌-ℤ◌, ◌<ℤ◌, ◌≤ℤ◌}
use Rattle.std.proofs.Common.{unsigned_abs}
use Rattle.std.proofs.lemmas.Bool.Decides.{nat_tests}
use Rattle.std.proofs.lemmas.Int.{by_lt_z}
use Rattle.jiff_core.proofs.SignedLemmas.{signed_arith, one_part}
use Rattle.gtd_calendar.specs.Calendar.{year_length, month_length, days_of_months, first_day, day_number}
use Rattle.gtd_calendar.specs.facts.YearLemmas.{first_day-next, first_day-later, year_of-is}
use Rattle.gtd_calendar.specs.Calendar.{IsDate, IsDateOf}
use Rattle.gtd_calendar.specs.ComputedDates.{year_of, place_in_year, last_begun, month_of, day_of_month}

pub month_length_bounds : (y : ℤ) (m : ℕ) → (month_length y m ≤ 31) × (28 ≤ month_length y m)
month_length_bounds y m = grind arith

-- twelve months are a year
pub days_of_months-year : (y : ℤ) → days_of_months y 12 ≡ year_length y
unfolding days_of_months
days_of_months-year y = grind arith

pub days_of_months-zero : (y : ℤ) → days_of_months y 0 ≡ 0
unfolding days_of_months
days_of_months-zero y = refl

pub days_of_months-next : (y : ℤ) (n : ℕ) → days_of_months y (n + 1) ≡ days_of_months y n + month_length y (n + 1)
unfolding days_of_months
days_of_months-next y n = let e : n + 1 ≡ suc n = omega arith in rw e refl

days_of_months-add : (y : ℤ) (m k : ℕ) → days_of_months y m ≤ days_of_months y (k + m)
days_of_months-add y m zero = let same : 0 + m ≡ m = omega arith in rw same (omega arith)
days_of_months-add y m (suc k) =
    let next : suc k + m ≡ k + m + 1 = omega arith in
    rw next (omega (arith, days_of_months-add y m k, days_of_months-next y (k + m)))

pub days_of_months_mono : (y : ℤ) (m later : ℕ) → m ≤ later → days_of_months y m ≤ days_of_months y later
days_of_months_mono y m later h =
    let same : later - m + m ≡ later = omega arith in rw same at (days_of_months-add y m (later - m))

-- the last month that begins at or before a place
pub last_begun-is : (y : ℤ) (k n : ℕ) → k < days_of_months y n → (last_begun y k n ≤ n) × (1 ≤ last_begun y k n)
    × (days_of_months y (last_begun y k n - 1) ≤ k) × (k < days_of_months y (last_begun y k n))
unfolding last_begun
last_begun-is y k zero h = absurd (omega (arith, days_of_months-zero y))
last_begun-is y k (suc n) h =
    let back : suc n - 1 ≡ n = omega arith in
    chosen (last_begun y k n) back h (last_begun-is y k n)
  where
    chosen : (b : ℕ) → suc n - 1 ≡ n → k < days_of_months y (suc n)
        → (k < days_of_months y n → (b ≤ n) × (1 ≤ b) × (days_of_months y (b - 1) ≤ k) × (k < days_of_months y b))
        → let m = cond (nat_le (days_of_months y n) k) (suc n) b in (m ≤ suc n) × (1 ≤ m)
        × (days_of_months y (m - 1) ≤ k) × (k < days_of_months y m)
    chosen b back h before = grind (arith, nat_tests)

-- how many days of its year come before a day
pub place_in_year-is : (n : ℤ) → (n ≡ first_day (year_of n) +ℤ pos (place_in_year n))
    × (place_in_year n < year_length (year_of n))
unfolding place_in_year
place_in_year-is n =
    let lies = year_of-is n in
    let next = first_day-next (year_of n) in
    placed n (first_day (year_of n)) (first_day (year_of n +ℤ pos 1)) (year_length (year_of n)) lies.0 lies.1 next
  where
    placed : (n first after : ℤ) (long : ℕ) → first ≤ℤ n → n <ℤ after → after ≡ first +ℤ pos long
        → (n ≡ first +ℤ pos (unsigned_abs (n -ℤ first))) × (unsigned_abs (n -ℤ first) < long)
    placed n first after long low high e =
        let part = one_part (n -ℤ first) in (omega (arith, signed_arith), omega (arith, signed_arith))

-- the date that is computed is a date of the day
pub date_of-is : (n : ℤ) → IsDateOf n (year_of n) (month_of n) (day_of_month n)
unfolding month_of day_of_month day_number
date_of-is n =
    let place = place_in_year-is n in
    let begun = last_begun-is (year_of n) (place_in_year n) 12 (rw (days_of_months-year (year_of n)) place.1) in
    let back : last_begun (year_of n) (place_in_year n) 12 - 1 + 1 ≡ last_begun (year_of n) (place_in_year n) 12 = omega
    arith in
    let next = rw back at (days_of_months-next (year_of n) (last_begun (year_of n) (place_in_year n) 12 - 1)) in
    dated n (year_of n) (place_in_year n) (last_begun (year_of n) (place_in_year n) 12) place.0 begun.0 begun.1 begun.2
    begun.3 next
  where
    dated : (n y : ℤ) (k m : ℕ) → n ≡ first_day y +ℤ pos k → m ≤ 12 → 1 ≤ m → days_of_months y (m - 1) ≤ k
        → k < days_of_months y m → days_of_months y m ≡ days_of_months y (m - 1) + month_length y m
        → (((1 ≤ m) × (m ≤ 12)) × ((1 ≤ k - days_of_months y (m - 1) + 1)
        × (k - days_of_months y (m - 1) + 1 ≤ month_length y m)))
        × (n ≡ first_day y +ℤ pos (days_of_months y (m - 1) + (k - days_of_months y (m - 1) + 1 - 1)))
    dated n y k m e high low begun ends next =
        let same : days_of_months y (m - 1) + (k - days_of_months y (m - 1) + 1 - 1) ≡ k = omega arith in
        (((low, high), (omega arith, omega arith)), rw same e)

-- a date lies in its year
pub day_number-in_year : (y : ℤ) (m d : ℕ) → IsDate y m d → (first_day y ≤ℤ day_number y m d)
    × (day_number y m d <ℤ (first_day y +ℤ pos (year_length y)))
unfolding day_number
day_number-in_year y m d h =
    let back : m - 1 + 1 ≡ m = omega arith in
    let next = rw back at (days_of_months-next y (m - 1)) in
    let inside = days_of_months_mono y m 12 h.0.1 in
    let all = days_of_months-year y in
    within (first_day y) (days_of_months y (m - 1)) d (year_length y) (omega arith)
  where
    within : (first : ℤ) (k d long : ℕ) → k + (d - 1) < long → (first ≤ℤ (first +ℤ pos (k + (d - 1))))
        × ((first +ℤ pos (k + (d - 1))) <ℤ (first +ℤ pos long))
    within first k d long h = (omega (arith, signed_arith), omega (arith, signed_arith))

-- two dates of one day are of one year
year_only : (n y z : ℤ) (m d k c : ℕ) → IsDateOf n y m d → IsDateOf n z k c → ¬ (y <ℤ z)
year_only n y z m d k c h g lt =
    let here = rw (← h.1) at (day_number-in_year y m d h.0) in
    let there = rw (← g.1) at (day_number-in_year z k c g.0) in
    let far = first_day-later y z lt in
    apart n (first_day y +ℤ pos (year_length y)) (first_day z) here.1 far there.0
  where
    apart : (n a b : ℤ) → n <ℤ a → a ≤ℤ b → b ≤ℤ n → ⊥
    apart n a b p q r = omega (arith, signed_arith)

month_only : (n y : ℤ) (m d k c : ℕ) → IsDateOf n y m d → IsDateOf n y k c → ¬ (m < k)
unfolding day_number
month_only n y m d k c h g lt =
    let back : m - 1 + 1 ≡ m = omega arith in
    let next = rw back at (days_of_months-next y (m - 1)) in
    let far = days_of_months_mono y m (k - 1) (omega arith) in
    let same = sym h.1 ∙ g.1 in
    let places : days_of_months y (m - 1) + (d - 1) ≡ days_of_months y (k - 1) + (c - 1) = omega
    (arith, signed_arith) in
    omega arith

day_only : (n y : ℤ) (m d c : ℕ) → IsDateOf n y m d → IsDateOf n y m c → d ≡ c
unfolding day_number
day_only n y m d c h g =
    let same = sym h.1 ∙ g.1 in
    let places : days_of_months y (m - 1) + (d - 1) ≡ days_of_months y (m - 1) + (c - 1) = omega
    (arith, signed_arith) in
    omega arith

same_month : (n y : ℤ) (m d k c : ℕ) → IsDateOf n y m d → IsDateOf n y k c → (m ≡ k) × (d ≡ c)
same_month n y m d k c h g =
    let no = month_only n y m d k c h g in
    let none = month_only n y k c m d g h in
    let same : m ≡ k = omega arith in
    (same, day_only n y m d c h (rw same g))

pub date-unique : (n y z : ℤ) (m d k c : ℕ) → IsDateOf n y m d → IsDateOf n z k c → (y ≡ z) × (m ≡ k) × (d ≡ c)
date-unique n y z m d k c h g =
    let same : y ≡ z = by_lt_z y z (λ lt. absurd (year_only n y z m d k c h g lt))
    (λ le. by_lt_z z y (λ lt. absurd (year_only n z y k c m d g h lt)) (λ ge. omega (arith, signed_arith))) in
    let rest = same_month n y m d k c h (rw same g) in
    (same, rest.0, rest.1)

-- and there is no other date
pub date_of-only : (n y : ℤ) (m d : ℕ) → IsDateOf n y m d → (y ≡ year_of n) × (m ≡ month_of n) × (d ≡ day_of_month n)
date_of-only n y m d h = date-unique n y (year_of n) m d (month_of n) (day_of_month n) h (date_of-is n)
