-- One stretch of months and days from a date of each year to another.
use Rattle.std.proofs.Common.{◌≡◌, ◌↔◌, ◌⊎◌, ℕ, ◌+◌, ◌-◌, ◌*◌, ◌<◌, ◌≤◌, min, refl, sym, ◌∙◌, inl, inr, arith}
use Rattle.std.proofs.Common.{ℤ, pos, ◌+ℤ◌, ◌-ℤ◌, ◌*ℤ◌, ◌≤ℤ◌, ◌<ℤ◌}
use Rattle.std.proofs.lemmas.Int.{by_lt_z}
use Rattle.gtd_calendar.specs.facts.Signed.{signed_arith}
use Rattle.gtd_core.specs.Trees.{Tree, Single}
use Rattle.gtd_core.specs.declared.duration.DurationParts.{DurationParts}
use Rattle.gtd_calendar.specs.Calendar.{day_number, first_day, days_of_months, month_length}
use Rattle.gtd_calendar.specs.ComputedDates.{year_of, month_of, day_of_month}
use Rattle.gtd_calendar.specs.ComputedEnds.{counted_year, counted_month, day_in_month, month_count, months_later}
use Rattle.gtd_calendar.specs.ComputedFields.{day_fields}
use Rattle.gtd_calendar.specs.facts.DateLemmas.{date_of-only, month_length_bounds}
use Rattle.gtd_calendar.specs.facts.MonthLemmas.{month_first, month_first-next, counted-is}
use Rattle.gtd_recur.specs.FieldMatches.{HoldsOnDay}
use Rattle.gtd_eval.specs.Membership.{InTree}
use Rattle.gtd_hours.specs.Cost.{common_length}
use Rattle.gtd_hours.specs.Opening.{IsRound, date_key}
use Rattle.gtd_hours.specs.Ranges.{IsMonth}
use Rattle.gtd_hours_selectors.specs.Days.{on_month_day}
use Rattle.gtd_hours_leaves.specs.Leaves.{clocked, minutes_of, moved_day, no_duration}
use Rattle.gtd_hours_leaves.specs.declared.clock.Clock.{Clock}
use Rattle.gtd_hours_selectors.proofs.DateLemmas.{date-in}
use Rattle.gtd_hours_leaves.specs.facts.LeafFacts.{days-held, reach}
use Rattle.gtd_hours_leaves.specs.facts.MonthFacts.{count, count-lies, month-in, order}

-- months and days as one number
abbrev pub place : ℤ → ℕ → ℤ
place t d = pos 32 *ℤ t +ℤ pos d

-- a day of a month, some months later, where each month has it
day-later : (n : ℤ) (k d : ℕ) → day_of_month n ≡ d → d ≤ 28 → months_later n k ≡ month_first (count n +ℤ pos k) +ℤ pos (d - 1)
unfolding months_later day_in_month day_number
day-later n k d at low =
    let t = count n +ℤ pos k in
    let stays : min (day_of_month n) (month_length (counted_year t) (counted_month t)) ≡ d =
    least _ _ d at low (month_length_bounds (counted_year t) (counted_month t)).1 in
    rw stays (summed (first_day (counted_year t)) (days_of_months (counted_year t) (counted_month t - 1)) (d - 1))
  where
    least : (a long d : ℕ) → a ≡ d → d ≤ 28 → 28 ≤ long → min a long ≡ d
    least a long d e low le = omega arith

    summed : (a : ℤ) (p q : ℕ) → a +ℤ pos (p + q) ≡ (a +ℤ pos p) +ℤ pos q
    summed a p q = omega (arith, signed_arith)

next : (t u : ℤ) → t <ℤ u → (t +ℤ pos 1) ≤ℤ u
next t u lt = omega (arith, signed_arith)

-- days from a day of a month on
from-place : (m t : ℤ) (d : ℕ) → 1 ≤ d → d ≤ 31 → (month_first t +ℤ pos (d - 1)) <ℤ month_first (t +ℤ pos 1)
    → ((month_first t +ℤ pos (d - 1)) ≤ℤ m) ↔ (place t d ≤ℤ place (count m) (day_of_month m))
from-place m t d some most inside =
    let here = count-lies m in
    let dm = date-in m in (
      (λ h.
          by_lt_z t (count m)
          (λ lt. after t (count m) d (day_of_month m) most dm.0 lt)
          (λ le. by_lt_z (count m) t
          (λ lt. absurd (early m _ _ (d - 1) here.1 (order (count m +ℤ pos 1) t (next (count m) t lt)) h))
          (λ ge.
          let e : t ≡ count m = omega (arith, signed_arith) in
          within m _ t (count m) d (day_of_month m) (rw e at h) e here.0 dm.0))),
      (λ h.
          by_lt_z t (count m)
          (λ lt. later m _ _ _ (day_of_month m) inside (order (t +ℤ pos 1) (count m) (next t (count m) lt)) here.0)
          (λ le.
          let e : t ≡ count m = equal t (count m) d (day_of_month m) some dm.1 h le in
          rw e (back m _ t (count m) d (day_of_month m) some e here.0 h))),
    )
  where
    after : (t u : ℤ) (d e : ℕ) → d ≤ 31 → 1 ≤ e → t <ℤ u → place t d ≤ℤ place u e
    after t u d e most low lt = omega (arith, signed_arith)

    early : (m a b : ℤ) (k : ℕ) → m <ℤ a → a ≤ℤ b → (b +ℤ pos k) ≤ℤ m → ⊥
    early m a b k p q r = omega (arith, signed_arith)

    within : (m a t u : ℤ) (d e : ℕ) → (a +ℤ pos (d - 1)) ≤ℤ m → t ≡ u → m ≡ a +ℤ pos (e - 1) → 1 ≤ e → place t d ≤ℤ place u e
    within m a t u d e h same at low = omega (arith, signed_arith)

    later : (m a b c : ℤ) (e : ℕ) → a <ℤ b → b ≤ℤ c → m ≡ c +ℤ pos (e - 1) → a ≤ℤ m
    later m a b c e p q at = omega (arith, signed_arith)

    equal : (t u : ℤ) (d e : ℕ) → 1 ≤ d → e ≤ 31 → place t d ≤ℤ place u e → u ≤ℤ t → t ≡ u
    equal t u d e low high h le = omega (arith, signed_arith)

    back : (m a t u : ℤ) (d e : ℕ) → 1 ≤ d → t ≡ u → m ≡ a +ℤ pos (e - 1) → place t d ≤ℤ place u e → (a +ℤ pos (d - 1)) ≤ℤ m
    back m a t u d e low same at h = omega (arith, signed_arith)

-- days up to a day of a month
up-to-place : (m t : ℤ) (d : ℕ) → 1 ≤ d → d ≤ 31 → (month_first t +ℤ pos d) ≤ℤ month_first (t +ℤ pos 1)
    → (m <ℤ (month_first t +ℤ pos d)) ↔ (place (count m) (day_of_month m) ≤ℤ place t d)
up-to-place m t d some most inside =
    let here = count-lies m in
    let dm = date-in m in (
      (λ h.
          by_lt_z (count m) t
          (λ lt. before t (count m) d (day_of_month m) some dm.1 lt)
          (λ le. by_lt_z t (count m)
          (λ lt. absurd (late m _ _ _ (day_of_month m) inside (order (t +ℤ pos 1) (count m) (next t (count m) lt)) here.0 h))
          (λ ge.
          let e : t ≡ count m = omega (arith, signed_arith) in
          within m _ t (count m) d (day_of_month m) (rw e at h) e here.0 dm.0))),
      (λ h.
          by_lt_z (count m) t
          (λ lt. earlier m _ _ d here.1 (order (count m +ℤ pos 1) t (next (count m) t lt)))
          (λ le.
          let e : t ≡ count m = equal t (count m) d (day_of_month m) most dm.0 h le in
          rw e (back m _ t (count m) d (day_of_month m) dm.0 e here.0 h))),
    )
  where
    before : (t u : ℤ) (d e : ℕ) → 1 ≤ d → e ≤ 31 → u <ℤ t → place u e ≤ℤ place t d
    before t u d e low high lt = omega (arith, signed_arith)

    late : (m a b c : ℤ) (e : ℕ) → a ≤ℤ b → b ≤ℤ c → m ≡ c +ℤ pos (e - 1) → m <ℤ a → ⊥
    late m a b c e p q at lt = omega (arith, signed_arith)

    within : (m a t u : ℤ) (d e : ℕ) → m <ℤ (a +ℤ pos d) → t ≡ u → m ≡ a +ℤ pos (e - 1) → 1 ≤ e → place u e ≤ℤ place t d
    within m a t u d e h same at low = omega (arith, signed_arith)

    earlier : (m a b : ℤ) (d : ℕ) → m <ℤ a → a ≤ℤ b → m <ℤ (b +ℤ pos d)
    earlier m a b d p q = omega (arith, signed_arith)

    equal : (t u : ℤ) (d e : ℕ) → d ≤ 31 → 1 ≤ e → place u e ≤ℤ place t d → t ≤ℤ u → t ≡ u
    equal t u d e high low h le = omega (arith, signed_arith)

    back : (m a t u : ℤ) (d e : ℕ) → 1 ≤ e → t ≡ u → m ≡ a +ℤ pos (e - 1) → place u e ≤ℤ place t d → m <ℤ (a +ℤ pos d)
    back m a t u d e low same at h = omega (arith, signed_arith)

-- what a stretch of months and days reaches
reach-date : (q : DurationParts) (n : ℤ) (k j : ℕ) → 12 * q.years + q.months ≡ k → 7 * q.weeks + q.days ≡ j
    → reach q n ≡ months_later n k +ℤ pos j
reach-date q n k j e f = rw (e, f) refl

-- each month has its common days
pub common-days-fit : (m d : ℕ) → d ≤ common_length m → (y : ℤ) → d ≤ month_length y m
common-days-fit m d le y = grind arith

-- a month and a day of it
to : (mo d : ℕ) (n : ℤ) → HoldsOnDay (on_month_day mo d) (day_fields n) → (month_of n ≡ mo) × (day_of_month n ≡ d)
to mo d n x = (sym x.month, sym x.day)

from : (mo d : ℕ) (n : ℤ) → (month_of n ≡ mo) × (day_of_month n ≡ d) → HoldsOnDay (on_month_day mo d) (day_fields n)
from mo d n h = record { year = tt; month = sym h.0; week = tt; day = sym h.1; nth = tt; nth_back = tt; weekdays = inl refl }

date-of : (y : ℤ) (mo d : ℕ) → IsMonth mo → 1 ≤ d → d ≤ 28 → let n = day_number y mo d in
    (year_of n ≡ y) × (month_of n ≡ mo) × (day_of_month n ≡ d)
date-of y mo d h some low =
    let n = day_number y mo d in
    let only = date_of-only n y mo d ((h, (some, long (month_length y mo) (month_length_bounds y mo).1)), refl) in
    (sym only.0, sym only.1, sym only.2)
  where
    long : (l : ℕ) → 28 ≤ l → d ≤ l
    long l le = omega (arith, le, low)

-- how the months of the two dates lie: in one year, or the last in the year after
abbrev pub AreMonthsApart : ℕ → ℕ → ℕ → ℕ → ℕ → Type 0
AreMonthsApart m1 d1 m2 d2 k =
    ((m1 + k ≡ m2) × (date_key m1 d1 ≤ date_key m2 d2)) ⊎ ((m1 + k ≡ m2 + 12) × (date_key m2 d2 < date_key m1 d1))

-- the month that is reached has the last day
reaches : (n : ℤ) (m1 d1 m2 d2 k : ℕ) → IsMonth m1 → IsMonth m2 → AreMonthsApart m1 d1 m2 d2 k → month_of n ≡ m1
    → ((y : ℤ) → d2 ≤ month_length y m2)
    → (month_first (count n +ℤ pos k) +ℤ pos d2) ≤ℤ month_first ((count n +ℤ pos k) +ℤ pos 1)
reaches n m1 d1 m2 d2 k f l apart at fits =
    let t = count n +ℤ pos k in
    elim apart [
      | inl same ↦ fit t (year_of n)
          (in_year (year_of n) (month_of n) k m2 (omega (arith, at, same.0)) (omega (arith, at, f.0)) l.0)
      | inr over ↦ fit t (year_of n +ℤ pos 1)
          (in_next (year_of n) (month_of n) k m2 (omega (arith, at, over.0)) (omega (arith, at, f.0)) l.0)
    ]
  where
    in_year : (y : ℤ) (mo k m2 : ℕ) → mo + k ≡ m2 → 1 ≤ mo → 1 ≤ m2 → month_count y mo +ℤ pos k ≡ pos 12 *ℤ y +ℤ pos (m2 - 1)
    in_year y mo k m2 e low high = omega (arith, signed_arith)

    in_next : (y : ℤ) (mo k m2 : ℕ) → mo + k ≡ m2 + 12 → 1 ≤ mo → 1 ≤ m2
        → month_count y mo +ℤ pos k ≡ pos 12 *ℤ (y +ℤ pos 1) +ℤ pos (m2 - 1)
    in_next y mo k m2 e low high = omega (arith, signed_arith)

    long : (a b : ℤ) (d length : ℕ) → b ≡ a +ℤ pos length → d ≤ length → (a +ℤ pos d) ≤ℤ b
    long a b d length e le = omega (arith, signed_arith)

    fit : (t y : ℤ) → t ≡ pos 12 *ℤ y +ℤ pos (m2 - 1) → (month_first t +ℤ pos d2) ≤ℤ month_first (t +ℤ pos 1)
    fit t y e =
        let at = counted-is t y (m2 - 1) (omega (arith, l.0, l.1)) e in
        let back : m2 - 1 + 1 ≡ m2 = omega (arith, l.0) in
        let month : counted_month t ≡ m2 = at.1 ∙ back in
        long (month_first t) (month_first (t +ℤ pos 1)) d2 (month_length (counted_year t) (counted_month t)) (month_first-next t)
        (rw month (fits (counted_year t)))

-- A stretch of i months and j days from the day d1 of month m1 ends after the day d2 of the month that is k months later.
abbrev pub EndsAt : ℕ → ℕ → ℕ → ℕ → ℕ → ℕ → Type 0
EndsAt m1 d1 d2 k i j = (n : ℤ) → month_of n ≡ m1 → day_of_month n ≡ d1
    → months_later n i +ℤ pos j ≡ month_first (count n +ℤ pos k) +ℤ pos d2

-- by months to that month
pub ends-there : (m1 d1 d2 k j : ℕ) → (1 ≤ d1) × (d1 ≤ 28) → d1 + j ≡ d2 + 1 → EndsAt m1 d1 d2 k k j
ends-there m1 d1 d2 k j low sum n mo at = rw (day-later n k d1 at low.1) (ends (month_first (count n +ℤ pos k)) d1 d2 j sum low.0)
  where
    ends : (a : ℤ) (d e j : ℕ) → d + j ≡ e + 1 → 1 ≤ d → (a +ℤ pos (d - 1)) +ℤ pos j ≡ a +ℤ pos e
    ends a d e j s low = omega (arith, signed_arith)

-- by months to the month before it, which has the same length in each year
pub ends-over : (m1 d1 m2 d2 before long k j : ℕ) → IsMonth m1 → IsMonth before → (1 ≤ d1) × (d1 ≤ 28)
    → AreMonthsApart m1 d1 m2 d2 k → 1 ≤ k
    → (before + 1 ≡ m2) ⊎ ((m2 ≡ 1) × (before ≡ 12)) → ((y : ℤ) → month_length y before ≡ long) → d1 + j ≡ long + d2 + 1
    → EndsAt m1 d1 d2 k (k - 1) j
ends-over m1 d1 m2 d2 before long k j f b low apart some was fixed sum n mo at =
    let t = count n +ℤ pos (k - 1) in
    let month = counted t (there (year_of n) (month_of n) mo) in
    let next = month_first-next t in
    let length : month_length (counted_year t) (counted_month t) ≡ long = rw month (fixed (counted_year t)) in
    let later : t +ℤ pos 1 ≡ count n +ℤ pos k = on (count n) k some in
    rw (day-later n (k - 1) d1 at low.1)
    (ends (month_first t) (month_first (count n +ℤ pos k)) d1 d2 long j sum low.0 (rw (later, length) at next))
  where
    on : (a : ℤ) (k : ℕ) → 1 ≤ k → (a +ℤ pos (k - 1)) +ℤ pos 1 ≡ a +ℤ pos k
    on a k some = omega (arith, signed_arith)

    ends : (a b : ℤ) (d e long j : ℕ) → d + j ≡ long + e + 1 → 1 ≤ d → b ≡ a +ℤ pos long
        → (a +ℤ pos (d - 1)) +ℤ pos j ≡ b +ℤ pos e
    ends a b d e long j s low next = omega (arith, signed_arith)

    counted : (t : ℤ) → ((y : ℤ) × (t ≡ pos 12 *ℤ y +ℤ pos (before - 1))) → counted_month t ≡ before
    counted t h =
        let is = counted-is t h.0 (before - 1) (omega (arith, b.0, b.1)) h.1 in
        let back : before - 1 + 1 ≡ before = omega (arith, b.0) in
        is.1 ∙ back

    in_year : (y : ℤ) (mo k before : ℕ) → mo + k ≡ before + 1 → 1 ≤ mo → 1 ≤ k → 1 ≤ before
        → month_count y mo +ℤ pos (k - 1) ≡ pos 12 *ℤ y +ℤ pos (before - 1)
    in_year y mo k before e low some c = omega (arith, signed_arith)

    in_next : (y : ℤ) (mo k before : ℕ) → mo + k ≡ before + 13 → 1 ≤ mo → 1 ≤ k → 1 ≤ before
        → month_count y mo +ℤ pos (k - 1) ≡ pos 12 *ℤ (y +ℤ pos 1) +ℤ pos (before - 1)
    in_next y mo k before e low some c = omega (arith, signed_arith)

    there : (y : ℤ) (mo : ℕ) → mo ≡ m1 → (z : ℤ) × (month_count y mo +ℤ pos (k - 1) ≡ pos 12 *ℤ z +ℤ pos (before - 1))
    there y mo e = elim apart [
      | inl same ↦ elim was [
        | inl x ↦ (y, in_year y mo k before (omega (arith, e, same.0, x)) (omega (arith, e, f.0)) some b.0)
        | inr x ↦ absurd (omega (arith, same.0, x.0, f.0, some))
      ]
      | inr over ↦ elim was [
        | inl x ↦ (y +ℤ pos 1, in_next y mo k before (omega (arith, e, over.0, x)) (omega (arith, e, f.0)) some b.0)
        | inr x ↦ (y, in_year y mo k before (omega (arith, e, over.0, x.0, x.1)) (omega (arith, e, f.0)) some b.0)
      ]
    ]

pub date-run : (t : Tree) (c : Clock) (m1 d1 m2 d2 k i j : ℕ)
    → t ≡ Single (clocked (on_month_day m1 d1) c) (record no_duration { months = i; days = j }) → IsMonth m1 → IsMonth m2
    → (1 ≤ d1) × (d1 ≤ 28) → (1 ≤ d2) × (d2 ≤ 31) → AreMonthsApart m1 d1 m2 d2 k → EndsAt m1 d1 d2 k i j
    → ((y : ℤ) → d2 ≤ month_length y m2) → (s : ℤ) → let m = moved_day (minutes_of c) s in
    InTree t s ↔ IsRound (date_key m1 d1) (date_key m2 d2) (date_key (month_of m) (day_of_month m))
date-run t c m1 d1 m2 d2 k i j e f l low high apart ends fits s =
    let q = record no_duration { months = i; days = j } in
    let held = days-held (on_month_day m1 d1) q c refl s in
    let m = moved_day (minutes_of c) s in
    let mi = month-in m in
    let dm = date-in m in
    rw e (
      (λ x.
          let y = held.0 x in
          let at = to m1 d1 y.0 y.1 in
          let lies = bounds y.0 m at.0 at.1 in
          let a = lies.0 y.2 in
          let b = lies.1 y.3 in
          round (year_of y.0) (year_of m) (month_of m) (day_of_month m) mi dm (rw at.0 at a) (rw at.0 at b)),
      (λ h.
          let y = years (year_of m) (month_of m) (day_of_month m) mi dm h in
          let n = day_number y.0 m1 d1 in
          let at = date-of y.0 m1 d1 f low.0 low.1 in
          let lies = back n m at.1 at.2 in
          held.1 (n, from m1 d1 n (at.1, at.2), lies.0 (rw (at.0, at.1) y.1), lies.1 (rw (at.0, at.1) y.2))),
    )
  where
    inside : (a b : ℤ) (d long : ℕ) → b ≡ a +ℤ pos long → d ≤ 28 → 28 ≤ long → (a +ℤ pos (d - 1)) <ℤ b
    inside a b d long e le ge = omega (arith, signed_arith)

    along : (n a m : ℤ) (P : Type 0) → n ≡ a → ((a ≤ℤ m) ↔ P) → (n ≤ℤ m) ↔ P
    along n a m P e h = rw e h

    first : (n : ℤ) → day_of_month n ≡ d1 → n ≡ month_first (count n) +ℤ pos (d1 - 1)
    first n at = rw at at (count-lies n).0

    end : (n : ℤ) → month_of n ≡ m1 → day_of_month n ≡ d1
        → reach (record no_duration { months = i; days = j }) n ≡ month_first (count n +ℤ pos k) +ℤ pos d2
    end n mo at =
        reach-date (record no_duration { months = i; days = j }) n i j (omega arith) (omega arith) ∙ ends n mo at

    lies : (n m : ℤ) → month_of n ≡ m1 → day_of_month n ≡ d1
        → ((n ≤ℤ m) ↔ (place (count n) d1 ≤ℤ place (count m) (day_of_month m)))
        × ((m <ℤ reach (record no_duration { months = i; days = j }) n)
        ↔ (place (count m) (day_of_month m) ≤ℤ place (count n +ℤ pos k) d2))
    lies n m mo at = (
      along n _ m _ (first n at) begun,
      rw (end n mo at) (up-to-place m (count n +ℤ pos k) d2 high.0 high.1 (reaches n m1 d1 m2 d2 k f l apart mo fits)),
    )
      where
        begun : ((month_first (count n) +ℤ pos (d1 - 1)) ≤ℤ m) ↔ (place (count n) d1 ≤ℤ place (count m) (day_of_month m))
        begun = from-place m (count n) d1 low.0 (omega (arith, low.1))
            (inside (month_first (count n)) (month_first (count n +ℤ pos 1)) d1 _ (month_first-next (count n)) low.1
            (month_length_bounds (counted_year (count n)) (counted_month (count n))).1)

    bounds : (n m : ℤ) → month_of n ≡ m1 → day_of_month n ≡ d1
        → (n ≤ℤ m → place (count n) d1 ≤ℤ place (count m) (day_of_month m))
        × (m <ℤ reach (record no_duration { months = i; days = j }) n
        → place (count m) (day_of_month m) ≤ℤ place (count n +ℤ pos k) d2)
    bounds n m mo at = let x = lies n m mo at in (x.0.0, x.1.0)

    back : (n m : ℤ) → month_of n ≡ m1 → day_of_month n ≡ d1
        → (place (count n) d1 ≤ℤ place (count m) (day_of_month m) → n ≤ℤ m)
        × (place (count m) (day_of_month m) ≤ℤ place (count n +ℤ pos k) d2
        → m <ℤ reach (record no_duration { months = i; days = j }) n)
    back n m mo at = let x = lies n m mo at in (x.0.1, x.1.1)

    round : (y z : ℤ) (mo d : ℕ) → IsMonth mo → (1 ≤ d) × (d ≤ 31) → place (month_count y m1) d1 ≤ℤ place (month_count z mo) d
        → place (month_count z mo) d ≤ℤ place (month_count y m1 +ℤ pos k) d2
        → IsRound (date_key m1 d1) (date_key m2 d2) (date_key mo d)
    round y z mo d mi dm a b = elim apart [
      | inl same ↦
          let years = one_year y z mo d m1 d1 m2 d2 k same.0 f l mi low.0 high.1 dm a b in
          inl (years.0, years.1)
      | inr over ↦ inr (over.1, two_years y z mo d m1 d1 m2 d2 k over.0 f l mi low.0 low.1 high.0 high.1 dm a b)
    ]
      where
        one_year : (y z : ℤ) (mo d m1 d1 m2 d2 k : ℕ) → m1 + k ≡ m2 → IsMonth m1 → IsMonth m2 → IsMonth mo → 1 ≤ d1 → d2 ≤ 31
            → (1 ≤ d) × (d ≤ 31) → place (month_count y m1) d1 ≤ℤ place (month_count z mo) d
            → place (month_count z mo) d ≤ℤ place (month_count y m1 +ℤ pos k) d2
            → (date_key m1 d1 ≤ date_key mo d) × (date_key mo d ≤ date_key m2 d2)
        one_year y z mo d m1 d1 m2 d2 k e f l mi low high dm a b =
            let same : y ≡ z = omega (arith, signed_arith, f.0, f.1, l.0, l.1, mi.0, mi.1, dm.0, dm.1) in
            (omega (arith, signed_arith, f.0, mi.0), omega (arith, signed_arith, f.0, mi.0))

        two_years : (y z : ℤ) (mo d m1 d1 m2 d2 k : ℕ) → m1 + k ≡ m2 + 12 → IsMonth m1 → IsMonth m2 → IsMonth mo → 1 ≤ d1
            → d1 ≤ 28
            → 1 ≤ d2 → d2 ≤ 31 → (1 ≤ d) × (d ≤ 31) → place (month_count y m1) d1 ≤ℤ place (month_count z mo) d
            → place (month_count z mo) d ≤ℤ place (month_count y m1 +ℤ pos k) d2
            → (date_key m1 d1 ≤ date_key mo d) ⊎ (date_key mo d ≤ date_key m2 d2)
        two_years y z mo d m1 d1 m2 d2 k e f l mi low less some high dm a b =
            by_lt_z y z
            (λ lt. inr (omega (arith, signed_arith, f.0, f.1, l.0, l.1, mi.0, mi.1, dm.0, dm.1)))
            (λ le. inl (omega (arith, signed_arith, f.0, f.1, mi.0, mi.1, dm.0, dm.1)))

    years : (z : ℤ) (mo d : ℕ) → IsMonth mo → (1 ≤ d) × (d ≤ 31) → IsRound (date_key m1 d1) (date_key m2 d2) (date_key mo d)
        → (y : ℤ) × (place (month_count y m1) d1 ≤ℤ place (month_count z mo) d)
        × (place (month_count z mo) d ≤ℤ place (month_count y m1 +ℤ pos k) d2)
    years z mo d mi dm h = elim apart [
      | inl same ↦ elim h [
        | inl x ↦ (z, own z mo d m1 d1 f.0 mi.0 x.0, up z mo d m1 m2 d2 k same.0 f.0 mi.0 x.1)
        | inr x ↦ absurd (omega (arith, same.1, x.0))
      ]
      | inr over ↦ elim h [
        | inl x ↦ absurd (omega (arith, over.1, x.0, x.1))
        | inr x ↦ elim (x.1) [
          | inl y ↦ (z, own z mo d m1 d1 f.0 mi.0 y, far z mo d m1 m2 d2 k over.0 f.0 mi.0 mi.1 l.0 high.0 dm.1)
          | inr y ↦ (z -ℤ pos 1, old z mo d m1 d1 f.0 f.1 mi.0 low.1 dm.0, near z mo d m1 m2 d2 k over.0 f.0 mi.0 y)
        ]
      ]
    ]
      where
        own : (z : ℤ) (mo d m1 d1 : ℕ) → 1 ≤ m1 → 1 ≤ mo → date_key m1 d1 ≤ date_key mo d
            → place (month_count z m1) d1 ≤ℤ place (month_count z mo) d
        own z mo d m1 d1 f mi le = omega (arith, signed_arith)

        up : (z : ℤ) (mo d m1 m2 d2 k : ℕ) → m1 + k ≡ m2 → 1 ≤ m1 → 1 ≤ mo → date_key mo d ≤ date_key m2 d2
            → place (month_count z mo) d ≤ℤ place (month_count z m1 +ℤ pos k) d2
        up z mo d m1 m2 d2 k e f mi le = omega (arith, signed_arith)

        far : (z : ℤ) (mo d m1 m2 d2 k : ℕ) → m1 + k ≡ m2 + 12 → 1 ≤ m1 → 1 ≤ mo → mo ≤ 12 → 1 ≤ m2 → 1 ≤ d2 → d ≤ 31
            → place (month_count z mo) d ≤ℤ place (month_count z m1 +ℤ pos k) d2
        far z mo d m1 m2 d2 k e f mi mx l high dm = omega (arith, signed_arith)

        old : (z : ℤ) (mo d m1 d1 : ℕ) → 1 ≤ m1 → m1 ≤ 12 → 1 ≤ mo → d1 ≤ 28 → 1 ≤ d
            → place (month_count (z -ℤ pos 1) m1) d1 ≤ℤ place (month_count z mo) d
        old z mo d m1 d1 f g mi low dm = omega (arith, signed_arith)

        near : (z : ℤ) (mo d m1 m2 d2 k : ℕ) → m1 + k ≡ m2 + 12 → 1 ≤ m1 → 1 ≤ mo → date_key mo d ≤ date_key m2 d2
            → place (month_count z mo) d ≤ℤ place (month_count (z -ℤ pos 1) m1 +ℤ pos k) d2
        near z mo d m1 m2 d2 k e f mi le = omega (arith, signed_arith)

-- a month other than February is as long in each year
pub fixed-length : (m long : ℕ) → ((y : ℤ) → (month_length y m ≡ long) ⊎ ((m ≡ 2) × (month_length y m ≤ 29))) → (m ≡ 2 → ⊥)
    → (y : ℤ) → month_length y m ≡ long
fixed-length m long full other y = elim (full y) [ inl e ↦ e | inr two ↦ absurd (other two.0) ]
