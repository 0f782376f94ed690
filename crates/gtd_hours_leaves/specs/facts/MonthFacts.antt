-- The months of days, counted, and what stretches of whole months reach.
use Rattle.std.proofs.Common.{◌≡◌, ◌↔◌, ℕ, ◌+◌, ◌-◌, ◌*◌, ◌<◌, ◌≤◌, min, refl, sym, ◌∙◌, arith}
use Rattle.std.proofs.Common.{ℤ, pos, ◌+ℤ◌, ◌-ℤ◌, ◌≤ℤ◌, ◌<ℤ◌, unsigned_abs}
use Rattle.std.proofs.lemmas.Int.{by_lt_z}
use Rattle.gtd_calendar.specs.facts.Signed.{signed_arith, one_part}
use Rattle.gtd_core.specs.declared.duration.DurationParts.{DurationParts}
use Rattle.gtd_calendar.specs.Calendar.{day_number, first_day, days_of_months, month_length}
use Rattle.gtd_calendar.specs.ComputedDates.{year_of, month_of, day_of_month}
use Rattle.gtd_calendar.specs.ComputedEnds.{counted_year, counted_month, day_in_month, month_count, months_later}
use Rattle.gtd_calendar.specs.facts.DateLemmas.{date_of-is, date_of-only, month_length_bounds}
use Rattle.gtd_calendar.specs.facts.MonthLemmas.{month_first, month_first-later, month_first-next, counted-is}
use Rattle.gtd_hours.specs.Ranges.{IsMonth}
use Rattle.gtd_hours_leaves.specs.facts.LeafFacts.{reach}

-- the month of a day, counted from January of the year 0
abbrev pub count : ℤ → ℤ
count n = month_count (year_of n) (month_of n)

-- a day is in the month of its count
pub count-lies : (n : ℤ) → (n ≡ month_first (count n) +ℤ pos (day_of_month n - 1)) × (n <ℤ month_first (count n +ℤ pos 1))
unfolding day_number
count-lies n =
    let is = date_of-is n in
    let at = counted-is (count n) (year_of n) (month_of n - 1) (omega (arith, is.0.0.0, is.0.0.1)) refl in
    let same : month_of n - 1 + 1 - 1 ≡ month_of n - 1 = omega arith in
    let back : month_of n - 1 + 1 ≡ month_of n = omega (arith, is.0.0.0) in
    let first = is.1 ∙ summed (first_day (year_of n)) (days_of_months (year_of n) (month_of n - 1)) (day_of_month n - 1) in
    let here : n ≡ month_first (count n) +ℤ pos (day_of_month n - 1) = rw (at.0, at.1, same) first in
    let long : day_of_month n ≤ month_length (counted_year (count n)) (counted_month (count n)) = rw (at.0, at.1, back) is.0.1.1
    in (
      here,
      before n (month_first (count n)) (month_first (count n +ℤ pos 1)) (day_of_month n) _ here is.0.1.0 long
          (month_first-next (count n)),
    )
  where
    summed : (a : ℤ) (p q : ℕ) → a +ℤ pos (p + q) ≡ (a +ℤ pos p) +ℤ pos q
    summed a p q = omega (arith, signed_arith)

    before : (n first next : ℤ) (d long : ℕ) → n ≡ first +ℤ pos (d - 1) → 1 ≤ d → d ≤ long → next ≡ first +ℤ pos long → n <ℤ next
    before n first next d long here low fits one = omega (arith, signed_arith)

-- the first of a month, some months later
first-later : (n : ℤ) (k : ℕ) → day_of_month n ≡ 1 → months_later n k ≡ month_first (count n +ℤ pos k)
unfolding months_later day_in_month day_number
first-later n k first =
    let t = count n +ℤ pos k in
    let one : min (day_of_month n) (month_length (counted_year t) (counted_month t)) ≡ 1 = least _ _ first
    (month_length_bounds (counted_year t) (counted_month t)).1 in
    rw one (none (first_day (counted_year t)) (days_of_months (counted_year t) (counted_month t - 1)))
  where
    least : (d long : ℕ) → d ≡ 1 → 28 ≤ long → min d long ≡ 1
    least d long e le = omega arith

    none : (a : ℤ) (p : ℕ) → a +ℤ pos (p + (1 - 1)) ≡ a +ℤ pos p
    none a p = omega (arith, signed_arith)

-- months follow one another in the order of their counts
pub order : (t u : ℤ) → t ≤ℤ u → month_first t ≤ℤ month_first u
order t u le =
    let part = one_part (u -ℤ t) in
    let e : t +ℤ pos (unsigned_abs (u -ℤ t)) ≡ u = omega (arith, signed_arith) in
    rw e at (month_first-later t (unsigned_abs (u -ℤ t))).0

-- days from the first of a month on, for some months, are those whose months lie so
pub months-lie : (n m : ℤ) (k : ℕ) → day_of_month n ≡ 1
    → ((n ≤ℤ m) × (m <ℤ months_later n k)) ↔ ((count n ≤ℤ count m) × (count m <ℤ (count n +ℤ pos k)))
months-lie n m k first =
    let here = count-lies m in
    let there : n ≡ month_first (count n) = begins n (month_first (count n)) (day_of_month n) first (count-lies n).0 in
    let low : month_first (count m) ≤ℤ m = lies m (month_first (count m)) (day_of_month m) here.0 in
    rw (first-later n k first) (
      (λ h. (
        by_lt_z (count m) (count n)
            (λ lt. absurd (apart m n (month_first (count n)) _ here.1
            (order (count m +ℤ pos 1) (count n) (next (count m) (count n) lt)) there h.0))
            (λ le. le),
        by_lt_z (count m) (count n +ℤ pos k)
            (λ lt. lt)
            (λ le. absurd (far m _ _ h.1 (order (count n +ℤ pos k) (count m) le) low)),
      )),
      (λ h. (
        from n m (month_first (count n)) _ there (order (count n) (count m) h.0) low,
        until m _ _ here.1 (order (count m +ℤ pos 1) (count n +ℤ pos k) (next (count m) (count n +ℤ pos k) h.1)),
      )),
    )
  where
    begins : (n a : ℤ) (d : ℕ) → d ≡ 1 → n ≡ a +ℤ pos (d - 1) → n ≡ a
    begins n a d e f = omega (arith, signed_arith)

    lies : (m a : ℤ) (d : ℕ) → m ≡ a +ℤ pos (d - 1) → a ≤ℤ m
    lies m a d e = omega (arith, signed_arith)

    next : (t u : ℤ) → t <ℤ u → (t +ℤ pos 1) ≤ℤ u
    next t u lt = omega (arith, signed_arith)

    apart : (m n a b : ℤ) → m <ℤ b → b ≤ℤ a → n ≡ a → n ≤ℤ m → ⊥
    apart m n a b p q e r = omega (arith, signed_arith)

    far : (m a b : ℤ) → m <ℤ a → a ≤ℤ b → b ≤ℤ m → ⊥
    far m a b p q r = omega (arith, signed_arith)

    from : (n m a b : ℤ) → n ≡ a → a ≤ℤ b → b ≤ℤ m → n ≤ℤ m
    from n m a b e p q = omega (arith, signed_arith)

    until : (m a b : ℤ) → m <ℤ a → a ≤ℤ b → m <ℤ b
    until m a b p q = omega (arith, signed_arith)

-- what a stretch of years or months reaches
pub reach-months : (q : DurationParts) (n : ℤ) → q.weeks ≡ 0 → q.days ≡ 0 → reach q n ≡ months_later n (12 * q.years + q.months)
reach-months q n weeks days = none (months_later n (12 * q.years + q.months)) q.weeks q.days weeks days
  where
    none : (a : ℤ) (w d : ℕ) → w ≡ 0 → d ≡ 0 → a +ℤ pos (7 * w + d) ≡ a
    none a w d e f = omega (arith, signed_arith)

-- the first of a month of a year is a day
pub first-of : (y : ℤ) (mo : ℕ) → IsMonth mo
    → let n = day_number y mo 1 in (year_of n ≡ y) × (month_of n ≡ mo) × (day_of_month n ≡ 1)
first-of y mo h =
    let n = day_number y mo 1 in
    let only = date_of-only n y mo 1 ((h, (omega arith, long (month_length y mo) (month_length_bounds y mo).1)), refl) in
    (sym only.0, sym only.1, sym only.2)
  where
    long : (l : ℕ) → 28 ≤ l → 1 ≤ l
    long l le = omega arith

pub month-in : (n : ℤ) → IsMonth (month_of n)
month-in n = (date_of-is n).0.0
