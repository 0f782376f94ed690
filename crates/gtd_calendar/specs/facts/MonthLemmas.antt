-- How the first days of months follow one another, and how far a move by months reaches.
use Rattle.std.proofs.Common.{◌≡◌, ℕ, zero, suc, ◌+◌, ◌-◌, ◌*◌, ◌<◌, ◌≤◌, inl, inr, cond, min}
use Rattle.std.proofs.Common.{nat_lt, refl, ◌∙◌, arith, ℤ, pos, ◌+ℤ◌}
use Rattle.std.proofs.Common.{◌*ℤ◌, ◌≤ℤ◌, ◌<ℤ◌, ◌-ℤ◌, unsigned_abs}
use Rattle.std.proofs.lemmas.Int.{ints, by_lt_z}
use Rattle.std.proofs.lemmas.Bool.{cases_lt}
use Rattle.std.specs.Int.{int_rem_euclid}
use Rattle.jiff_core.proofs.SignedLemmas.{signed_arith, one_part}
use Rattle.jiff_core.proofs.CalendarLemmas.{days_of_months_table}
use Rattle.gtd_calendar.specs.Calendar.{month_length, days_of_months, first_day, day_number}
use Rattle.gtd_calendar.specs.facts.YearLemmas.{leap_day, year_length-leap_day, first_day-next}
use Rattle.gtd_calendar.specs.facts.DateLemmas.{days_of_months-next, days_of_months-zero, days_of_months-year, date_of-is}
use Rattle.gtd_calendar.specs.facts.DateLemmas.{month_length_bounds}
use Rattle.gtd_calendar.specs.facts.JiffLemmas.{days_of_months-theirs, is_leap_year-theirs}
use Rattle.gtd_calendar.specs.ComputedDates.{year_of, month_of, day_of_month}
use Rattle.gtd_calendar.specs.ComputedEnds.{month_count, counted_year, counted_month, day_in_month, months_later}

-- the first day of the month at a count
abbrev pub month_first : ℤ → ℤ
month_first t = first_day (counted_year t) +ℤ pos (days_of_months (counted_year t) (counted_month t - 1))

-- a count is twelve for each year, and a month
pub counted-parts : (t : ℤ) → (t ≡ pos 12 *ℤ counted_year t +ℤ pos (counted_month t - 1)) × (1 ≤ counted_month t)
    × (counted_month t ≤ 12)
counted-parts t =
    let part = one_part (int_rem_euclid t (pos 12)) in
    (omega (arith, signed_arith), omega arith, omega (arith, signed_arith))

-- and only that year and month
pub counted-is : (t y : ℤ) (k : ℕ) → k < 12 → t ≡ pos 12 *ℤ y +ℤ pos k → (counted_year t ≡ y)
    × (counted_month t ≡ k + 1)
counted-is t y k low e =
    let parts = counted-parts t in
    only t y (counted_year t) k (counted_month t) low e parts.0 parts.1 parts.2
  where
    only : (t y z : ℤ) (k m : ℕ) → k < 12 → t ≡ pos 12 *ℤ y +ℤ pos k → t ≡ pos 12 *ℤ z +ℤ pos (m - 1) → 1 ≤ m → m ≤ 12
        → (z ≡ y) × (m ≡ k + 1)
    only t y z k m low e f first last = (omega (arith, signed_arith), omega (arith, signed_arith))

pub month_first-next : (t : ℤ) → month_first (t +ℤ pos 1) ≡ month_first t
    +ℤ pos (month_length (counted_year t) (counted_month t))
month_first-next t =
    let parts = counted-parts t in
    elim (cases_lt (counted_month t) 12) [
      | inl lt ↦
          let at = counted-is (t +ℤ pos 1) (counted_year t) (counted_month t) lt
          (within t (counted_year t) (counted_month t) parts.1 parts.0) in
          let back : counted_month t - 1 + 1 ≡ counted_month t = omega arith in
          let same : counted_month t + 1 - 1 ≡ counted_month t = omega arith in
          let next = rw back at (days_of_months-next (counted_year t) (counted_month t - 1)) in
          rw (at.0, at.1, same, next) (omega (arith, signed_arith))
      | inr ge ↦
          let last : counted_month t ≡ 12 = omega arith in
          let at = counted-is (t +ℤ pos 1) (counted_year t +ℤ pos 1) 0 (omega arith)
          (over t (counted_year t) (counted_month t) last parts.0) in
          let zero = days_of_months-zero (counted_year t +ℤ pos 1) in
          let next = first_day-next (counted_year t) in
          let all = days_of_months-year (counted_year t) in
          let end = days_of_months-next (counted_year t) 11 in
          rw (at.0, at.1, last) (omega (arith, signed_arith))
    ]
  where
    within : (t y : ℤ) (m : ℕ) → 1 ≤ m → t ≡ pos 12 *ℤ y +ℤ pos (m - 1) → t +ℤ pos 1 ≡ pos 12 *ℤ y +ℤ pos m
    within t y m low e = omega (arith, signed_arith)

    over : (t y : ℤ) (m : ℕ) → m ≡ 12 → t ≡ pos 12 *ℤ y +ℤ pos (m - 1) → t +ℤ pos 1 ≡ pos 12 *ℤ (y +ℤ pos 1) +ℤ pos 0
    over t y m low e = omega (arith, signed_arith)

-- a month later the first of the month is 28 to 31 days later
month_first-step : (t : ℤ) → ((month_first t +ℤ pos 28) ≤ℤ month_first (t +ℤ pos 1))
    × (month_first (t +ℤ pos 1) ≤ℤ (month_first t +ℤ pos 31))
month_first-step t =
    let long = month_length_bounds (counted_year t) (counted_month t) in
    stepped (month_first t) (month_first (t +ℤ pos 1)) (month_length (counted_year t) (counted_month t))
    (month_first-next t) long.1 long.0
  where
    stepped : (a b : ℤ) (long : ℕ) → b ≡ a +ℤ pos long → 28 ≤ long → long ≤ 31 → ((a +ℤ pos 28) ≤ℤ b)
        × (b ≤ℤ (a +ℤ pos 31))
    stepped a b long e low high = (omega (arith, signed_arith), omega (arith, signed_arith))

pub month_first-later : (t : ℤ) (k : ℕ) → (month_first t ≤ℤ month_first (t +ℤ pos k))
    × (month_first (t +ℤ pos k) ≤ℤ (month_first t +ℤ pos (31 * k)))
month_first-later t zero = let same : t +ℤ pos 0 ≡ t = omega (arith, signed_arith) in rw same
    (omega (arith, signed_arith), omega (arith, signed_arith))
month_first-later t (suc k) =
    let next : t +ℤ pos (suc k) ≡ t +ℤ pos k +ℤ pos 1 = omega (arith, signed_arith) in
    let before = month_first-later t k in
    let step = month_first-step (t +ℤ pos k) in
    rw next (reached (month_first t) (month_first (t +ℤ pos k)) (month_first (t +ℤ pos k +ℤ pos 1)) k before.0 before.1
    step.0 step.1)
  where
    reached : (a b c : ℤ) (k : ℕ) → a ≤ℤ b → b ≤ℤ (a +ℤ pos (31 * k)) → (b +ℤ pos 28) ≤ℤ c → c ≤ℤ (b +ℤ pos 31)
        → (a ≤ℤ c) × (c ≤ℤ (a +ℤ pos (31 * suc k)))
    reached a b c k p q r s = (omega (arith, signed_arith), omega (arith, signed_arith))

-- the days of the first n months of two years differ by the leap days alone, if n is more than 1
days_of_months-leap : (y z : ℤ) (n : ℕ) → n < 12 → days_of_months y n + cond (nat_lt 1 n) (leap_day z) 0
    ≡ days_of_months z n + cond (nat_lt 1 n) (leap_day y) 0
days_of_months-leap y z n h =
    let here = rw (days_of_months-theirs y n, is_leap_year-theirs y) at (days_of_months_table y n h) in
    let there = rw (days_of_months-theirs z n, is_leap_year-theirs z) at (days_of_months_table z n h) in
    grind arith

-- a year later it is 365 or 366 days later
month_first-year : (t : ℤ) → (month_first t ≤ℤ month_first (t +ℤ pos 12))
    × (month_first (t +ℤ pos 12) ≤ℤ (month_first t +ℤ pos 366))
month_first-year t =
    let parts = counted-parts t in
    let at = counted-is (t +ℤ pos 12) (counted_year t +ℤ pos 1) (counted_month t - 1) (omega arith)
    (moved t (counted_year t) (counted_month t) parts.0) in
    let same : counted_month t - 1 + 1 - 1 ≡ counted_month t - 1 = omega arith in
    let months = days_of_months-leap (counted_year t) (counted_year t +ℤ pos 1) (counted_month t - 1) (omega arith) in
    rw (at.0, at.1, same) (longer (counted_year t) (first_day (counted_year t)) (first_day (counted_year t +ℤ pos 1))
    (days_of_months (counted_year t) (counted_month t - 1)) (days_of_months (counted_year t +ℤ pos 1)
    (counted_month t - 1)) (counted_month t - 1)
    (leap_day (counted_year t)) (leap_day (counted_year t +ℤ pos 1))
    (rw (year_length-leap_day (counted_year t)) at (first_day-next (counted_year t)))
    (leap_day_bound (counted_year t)) (leap_day_bound (counted_year t +ℤ pos 1)) months)
  where
    moved : (t y : ℤ) (m : ℕ) → t ≡ pos 12 *ℤ y +ℤ pos (m - 1) → t +ℤ pos 12 ≡ pos 12 *ℤ (y +ℤ pos 1) +ℤ pos (m - 1)
    moved t y m e = omega (arith, signed_arith)

    leap_day_bound : (y : ℤ) → leap_day y ≤ 1
    leap_day_bound y = grind arith

    longer : (y a b : ℤ) (p q n here there : ℕ) → b ≡ a +ℤ pos (365 + here) → here ≤ 1 → there ≤ 1
        → p + cond (nat_lt 1 n) there 0 ≡ q + cond (nat_lt 1 n) here 0
        → ((a +ℤ pos p) ≤ℤ (b +ℤ pos q)) × ((b +ℤ pos q) ≤ℤ ((a +ℤ pos p) +ℤ pos 366))
    longer y a b p q n here there e low high months =
        let both : (p ≤ q + 1) × (q + here ≤ p + 1) = grind arith in
        (omega (arith, signed_arith), omega (arith, signed_arith))

pub month_first-years : (t : ℤ) (k : ℕ) → (month_first t ≤ℤ month_first (t +ℤ pos (12 * k)))
    × (month_first (t +ℤ pos (12 * k)) ≤ℤ (month_first t +ℤ pos (366 * k)))
month_first-years t zero = let same : t +ℤ pos (12 * 0) ≡ t = omega (arith, signed_arith) in rw same
    (omega (arith, signed_arith), omega (arith, signed_arith))
month_first-years t (suc k) =
    let next : t +ℤ pos (12 * suc k) ≡ t +ℤ pos (12 * k) +ℤ pos 12 = omega (arith, signed_arith) in
    let before = month_first-years t k in
    let step = month_first-year (t +ℤ pos (12 * k)) in
    rw next (reached (month_first t) (month_first (t +ℤ pos (12 * k))) (month_first (t +ℤ pos (12 * k) +ℤ pos 12)) k
    before.0 before.1 step.0 step.1)
  where
    reached : (a b c : ℤ) (k : ℕ) → a ≤ℤ b → b ≤ℤ (a +ℤ pos (366 * k)) → b ≤ℤ c → c ≤ℤ (b +ℤ pos 366) → (a ≤ℤ c)
        × (c ≤ℤ (a +ℤ pos (366 * suc k)))
    reached a b c k p q r s = (omega (arith, signed_arith), omega (arith, signed_arith))

-- a day is in the month of its count
day-month_first : (n : ℤ) → n ≡ month_first (month_count (year_of n) (month_of n)) +ℤ pos (day_of_month n - 1)
unfolding day_number
day-month_first n =
    let is = date_of-is n in
    let at = counted-is (month_count (year_of n) (month_of n)) (year_of n) (month_of n - 1) (omega arith) refl in
    let same : month_of n - 1 + 1 - 1 ≡ month_of n - 1 = omega arith in
    rw (at.0, at.1, same) (is.1 ∙ summed (first_day (year_of n)) (days_of_months (year_of n) (month_of n - 1))
    (day_of_month n - 1))
  where
    summed : (a : ℤ) (p q : ℕ) → a +ℤ pos (p + q) ≡ (a +ℤ pos p) +ℤ pos q
    summed a p q = omega (arith, signed_arith)

-- the day in a month is between its first and the place asked for
day_in_month-place : (t : ℤ) (d : ℕ) → day_in_month t d ≡ month_first t
    +ℤ pos (min d (month_length (counted_year t) (counted_month t)) - 1)
unfolding day_in_month day_number
day_in_month-place t d =
    summed (first_day (counted_year t)) (days_of_months (counted_year t) (counted_month t - 1))
    (min d (month_length (counted_year t) (counted_month t)) - 1)
  where
    summed : (a : ℤ) (p q : ℕ) → a +ℤ pos (p + q) ≡ (a +ℤ pos p) +ℤ pos q
    summed a p q = omega (arith, signed_arith)

-- a move by years and months goes forward, by at most 366 days a year and 31 a month
pub months_later-bound : (n : ℤ) (years months : ℕ) → (n ≤ℤ months_later n (12 * years + months))
    × (months_later n (12 * years + months) ≤ℤ (n +ℤ pos (366 * years + 31 * months)))
unfolding months_later
months_later-bound n years months =
    let t = month_count (year_of n) (month_of n) in
    let d = day_of_month n in
    let is = date_of-is n in
    let at = counted-is t (year_of n) (month_of n - 1) (omega arith) refl in
    let same : month_of n - 1 + 1 ≡ month_of n = omega arith in
    let here = day-month_first n in
    let length : d ≤ month_length (counted_year t) (counted_month t) = rw (at.0, at.1, same) is.0.1.1 in
    elim (cases_lt 0 (12 * years + months)) [
      | inl some ↦
          let k = 12 * years + months - 1 in
          let split : 12 * years + months ≡ 1 + k = omega arith in
          let one = month_first-next t in
          let more = (month_first-later (t +ℤ pos 1) k).0 in
          let joined : t +ℤ pos 1 +ℤ pos k ≡ t +ℤ pos (12 * years + months) = omega (arith, signed_arith) in
          let far = rw joined at more in
          let reach = reached t years months in
          rw (day_in_month-place (t +ℤ pos (12 * years + months)) d)
          (ends n (month_first t) (month_first (t +ℤ pos 1)) (month_first (t +ℤ pos (12 * years + months))) d
          (month_length (counted_year t) (counted_month t)) _ years months is.0.1.0 here length one far reach)
      | inr none ↦
          let zero : 12 * years + months ≡ 0 = omega arith in
          let stay : t +ℤ pos 0 ≡ t = omega (arith, signed_arith) in
          let whole : min d (month_length (counted_year t) (counted_month t)) ≡ d = omega arith in
          rw (zero, stay, day_in_month-place t d, whole) (stays n _ d years months here)
    ]
  where
    reached : (t : ℤ) (years months : ℕ) → month_first (t +ℤ pos (12 * years + months))
        ≤ℤ (month_first t +ℤ pos (366 * years + 31 * months))
    reached t years months =
        let split : t +ℤ pos (12 * years + months) ≡ t +ℤ pos (12 * years) +ℤ pos months = omega
        (arith, signed_arith) in
        rw split (both (month_first t) (month_first (t +ℤ pos (12 * years)))
        (month_first (t +ℤ pos (12 * years) +ℤ pos months)) years months (month_first-years t years).1
        (month_first-later (t +ℤ pos (12 * years)) months).1)
      where
        both : (a b c : ℤ) (y m : ℕ) → b ≤ℤ (a +ℤ pos (366 * y)) → c ≤ℤ (b +ℤ pos (31 * m))
            → c ≤ℤ (a +ℤ pos (366 * y + 31 * m))
        both a b c y m p q = omega (arith, signed_arith)

    ends : (n first next far : ℤ) (d long there years months : ℕ) → 1 ≤ d → n ≡ first +ℤ pos (d - 1) → d ≤ long
        → next ≡ first +ℤ pos long → next ≤ℤ far → far ≤ℤ (first +ℤ pos (366 * years + 31 * months))
        → (n ≤ℤ (far +ℤ pos (min d there - 1)))
        × ((far +ℤ pos (min d there - 1)) ≤ℤ (n +ℤ pos (366 * years + 31 * months)))
    ends n first next far d long there years months low here fits one more reach = (
      omega (arith, signed_arith),
      omega (arith, signed_arith),
    )

    stays : (n first : ℤ) (d years months : ℕ) → n ≡ first +ℤ pos (d - 1) → (n ≤ℤ (first +ℤ pos (d - 1)))
        × ((first +ℤ pos (d - 1)) ≤ℤ (n +ℤ pos (366 * years + 31 * months)))
    stays n first d years months here = (omega (arith, signed_arith), omega (arith, signed_arith))

-- a move by no month stays
pub months_later-none : (n : ℤ) → months_later n 0 ≡ n
months_later-none n = let bound = months_later-bound n 0 0 in omega (arith, signed_arith, bound.0, bound.1)

-- the first of a later month is after the whole month
month_first-order : (t u : ℤ) → t <ℤ u → (month_first t +ℤ pos (month_length (counted_year t) (counted_month t))) ≤ℤ month_first u
month_first-order t u lt =
    let j = unsigned_abs (u -ℤ (t +ℤ pos 1)) in
    let e : u ≡ t +ℤ pos 1 +ℤ pos j = by_distance t u lt in
    let next = month_first-next t in
    let far = (month_first-later (t +ℤ pos 1) j).0 in
    rw (← e) at (rw next at far)
  where
    by_distance : (t u : ℤ) → t <ℤ u → u ≡ t +ℤ pos 1 +ℤ pos (unsigned_abs (u -ℤ (t +ℤ pos 1)))
    by_distance t u lt = grind (arith, ints)

-- days moved by the same months stay in order
pub months_later-order : (n m : ℤ) (k : ℕ) → n ≤ℤ m → months_later n k ≤ℤ months_later m k
unfolding months_later
months_later-order n m k le =
    let t = month_count (year_of n) (month_of n) in
    let u = month_count (year_of m) (month_of m) in
    let a = date_of-is n in
    let b = date_of-is m in
    let at = counted-is t (year_of n) (month_of n - 1) (omega arith) refl in
    let bt = counted-is u (year_of m) (month_of m - 1) (omega arith) refl in
    let sa : month_of n - 1 + 1 ≡ month_of n = omega arith in
    let sb : month_of m - 1 + 1 ≡ month_of m = omega arith in
    let la : day_of_month n ≤ month_length (counted_year t) (counted_month t) = rw (at.0, at.1, sa) a.0.1.1 in
    let lb : day_of_month m ≤ month_length (counted_year u) (counted_month u) = rw (bt.0, bt.1, sb) b.0.1.1 in
    let ha = day-month_first n in
    let hb = day-month_first m in
    rw (day_in_month-place (t +ℤ pos k) (day_of_month n), day_in_month-place (u +ℤ pos k) (day_of_month m))
    (by_lt_z u t
    (λ lt. absurd (crossed n m (month_first u) (month_first t) (day_of_month n) (day_of_month m)
    (month_length (counted_year u) (counted_month u)) le ha hb (month_first-order u t lt) lb b.0.1.0))
    (λ ge. by_lt_z t u
    (λ lt. apart (month_first (t +ℤ pos k)) (month_first (u +ℤ pos k)) (day_of_month n) (day_of_month m)
    (month_length (counted_year (t +ℤ pos k)) (counted_month (t +ℤ pos k)))
    (month_length (counted_year (u +ℤ pos k)) (counted_month (u +ℤ pos k)))
    (month_first-order (t +ℤ pos k) (u +ℤ pos k) (omega (arith, signed_arith)))
    (month_length_bounds (counted_year (t +ℤ pos k)) (counted_month (t +ℤ pos k))).1)
    (λ low. let same : u ≡ t = omega (arith, signed_arith) in
    let hb2 = rw same at hb in
    rw same (together n m (month_first t) (month_first (t +ℤ pos k)) (day_of_month n) (day_of_month m)
    (month_length (counted_year (t +ℤ pos k)) (counted_month (t +ℤ pos k))) le ha hb2 b.0.1.0))))
  where
    crossed : (n m u t : ℤ) (d e long : ℕ) → n ≤ℤ m → n ≡ t +ℤ pos (d - 1) → m ≡ u +ℤ pos (e - 1) → (u +ℤ pos long) ≤ℤ t
        → e ≤ long → 1 ≤ e → ⊥
    crossed n m u t d e long le a b far fits low = omega (arith, signed_arith)

    apart : (t u : ℤ) (d e long there : ℕ) → (t +ℤ pos long) ≤ℤ u → 28 ≤ long → (t +ℤ pos (min d long - 1))
        ≤ℤ (u +ℤ pos (min e there - 1))
    apart t u d e long there far low = omega (arith, signed_arith)

    together : (n m t f : ℤ) (d e long : ℕ) → n ≤ℤ m → n ≡ t +ℤ pos (d - 1) → m ≡ t +ℤ pos (e - 1) → 1 ≤ e
        → (f +ℤ pos (min d long - 1)) ≤ℤ (f +ℤ pos (min e long - 1))
    together n m t f d e long le a b low = omega (arith, signed_arith)
