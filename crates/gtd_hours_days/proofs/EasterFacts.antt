-- Days of each year: one in each year, and near it; and the ranges between them.
use Rattle.std.proofs.Common.{◌≡◌, ◌∙◌, sym, refl, ap, subst, arith, ◌<◌, ◌≤◌, ◌⊎◌, inl, inr, ◌↔◌, ◌+◌, ◌-◌, ℕ, Bool, true, false}
use Rattle.std.proofs.Common.{IsTrue, ℤ, pos, neg_ℤ, ◌+ℤ◌, ◌-ℤ◌, ◌≤ℤ◌, ◌<ℤ◌}
use Rattle.std.proofs.lemmas.Bool.{cases_eq, cases_lt}
use Rattle.gtd_calendar.specs.facts.Signed.{signed_arith}
use Rattle.gtd_calendar.specs.Calendar.{AreFieldsOf, IsCalendarDay, IsDateOf, day_number, days_of_months, first_day, month_length}
use Rattle.gtd_calendar.specs.Calendar.{year_length}
use Rattle.gtd_calendar.specs.declared.day.DayFields.{DayFields}
use Rattle.gtd_calendar.specs.facts.CycleLemmas.{date-cycle, month_length-cycle, week-cycle, weekday_of-cycle}
use Rattle.gtd_calendar.specs.facts.DateLemmas.{day_number-in_year, days_of_months-next, days_of_months-zero, month_length_bounds}
use Rattle.gtd_calendar.specs.facts.YearLemmas.{first_day-next}
use Rattle.gtd_hours.specs.ComputedPlaces.{end_day}
use Rattle.gtd_hours.specs.Moving.{IsEndIn, day_from}
use Rattle.gtd_hours.specs.declared.places.End.{End}
use Rattle.gtd_hours.specs.declared.places.End.TheVariants as end
use Rattle.gtd_hours.specs.declared.places.MonthPlace.{MonthPlace}
use Rattle.gtd_hours.specs.facts.PlaceFacts.{end-is, end-only}
use Rattle.gtd_hours_holidays.specs.Easter.{easter_day, easter_month}
use Rattle.gtd_hours_holidays.specs.KnownYears.{IsOfYears}
use Rattle.gtd_hours_holidays.specs.declared.known_years.KnownYears.{KnownYears}
use Rattle.gtd_hours_days.specs.EasterRanges.{IsDayIn, IsEasterRange, IsInNextOrder, IsInOrder, IsInRange, IsInRangeOf, IsOrder}
use Rattle.gtd_hours_days.specs.EasterRanges.{has_each_year, last_year}
use Rattle.gtd_hours_days.specs.declared.yearly_day.YearlyDay.{YearlyDay}
use Rattle.gtd_hours_days.specs.declared.yearly_day.YearlyDay.TheVariants.{Calendar, Easter}
use Rattle.gtd_hours_days.proofs.AdditionFacts.{LiesBetween}
use Rattle.gtd_hours_days.proofs.DateFacts.{first_day-1800, first_day-2800, in_order, long_year}

-- ---- places, four hundred years later

later_from : (before : Bool) (k : ℕ) (n m : ℤ) → n ≡ day_from before k m
    → n +ℤ pos 146_097 ≡ day_from before k (m +ℤ pos 146_097)
later_from true k n m e = omega (arith, signed_arith, e)
later_from false k n m e = omega (arith, signed_arith, e)

later_fields : (m : ℤ) (f : DayFields) → AreFieldsOf m f
    → AreFieldsOf (m +ℤ pos 146_097) (record f { year = f.year +ℤ pos 400; week_year = f.week_year +ℤ pos 400 })
later_fields m f h = record {
  date = date-cycle m f.year f.month f.day h.date;
  weekday = h.weekday ∙ sym (weekday_of-cycle m);
  week = week-cycle m f.week_year f.week h.week;
  nth = h.nth;
  nth_back = rw (month_length-cycle f.year f.month) h.nth_back;
}

pub place_later : (x : MonthPlace) (y n : ℤ) → IsEndIn (end.Place x) y n
    → IsEndIn (end.Place x) (y +ℤ pos 400) (n +ℤ pos 146_097)
place_later x y n h =
    let f : DayFields = h.1 in (
      h.0 +ℤ pos 146_097,
      record f { year = f.year +ℤ pos 400; week_year = f.week_year +ℤ pos 400 },
      later_fields h.0 f h.2,
      ap (λ (z : ℤ). z +ℤ pos 400) h.3,
      h.4,
      (h.5.0, h.5.1),
      later_from x.place.is_before x.place.days n h.0 h.6,
    )

-- so the day of a place is found four hundred years later, or earlier
pub place_earlier : (x : MonthPlace) (y : ℕ) (n m : ℤ) → m ≡ n -ℤ pos 146_097 → IsEndIn (end.Place x) (pos (y + 400)) n
    → IsEndIn (end.Place x) (pos y) m
place_earlier x y n m e h =
    let here = end-is (end.Place x) (pos y) refl in
    let there = place_later x (pos y) (end_day (end.Place x) (pos y)) here in
    let at : pos y +ℤ pos 400 ≡ pos (y + 400) = omega (arith, signed_arith) in
    let same = end-only (end.Place x) (pos (y + 400)) n h
    ∙ sym (end-only (end.Place x) (pos (y + 400)) (end_day (end.Place x) (pos y) +ℤ pos 146_097) (rw at at there)) in
    subst (λ (z : ℤ). IsEndIn (end.Place x) (pos y) z) (back (end_day (end.Place x) (pos y)) n m same e) here
  where
    back : (a n m : ℤ) → n ≡ a +ℤ pos 146_097 → m ≡ n -ℤ pos 146_097 → a ≡ m
    back a n m e f = omega (arith, signed_arith, e, f)

pub place_from : (x : MonthPlace) (y : ℕ) (n m : ℤ) → m ≡ n +ℤ pos 146_097 → 400 ≤ y
    → IsEndIn (end.Place x) (pos (y - 400)) n → IsEndIn (end.Place x) (pos y) m
place_from x y n m e low h =
    let at : pos (y - 400) +ℤ pos 400 ≡ pos y = omega (arith, signed_arith, low) in
    subst (λ (z : ℤ). IsEndIn (end.Place x) (pos y) z) (sym e) (rw at at (place_later x (pos (y - 400)) n h))

-- ---- one day in each year

pub one_day : (x : YearlyDay) (y : ℕ) (n m : ℤ) → IsDayIn x y n → IsDayIn x y m → n ≡ m
one_day (Calendar e) y n m h k = end-only e (pos y) n h ∙ sym (end-only e (pos y) m k)
one_day (Easter offset) y n m h k = same n m offset.days (h ∙ sym k)
  where
    same : (n m d : ℤ) → n -ℤ d ≡ m -ℤ d → n ≡ m
    same n m d e = omega (arith, signed_arith, e)

pub day_there : (x : YearlyDay) (y : ℕ) → has_each_year x ≡ true → (n : ℤ) × IsDayIn x y n
day_there (Calendar e) y yearly = (end_day e (pos y), end-is e (pos y) yearly)
day_there (Easter offset) y yearly =
    let n = day_number (pos y) (easter_month y) (easter_day y) in
    (n +ℤ offset.days, omega (arith, signed_arith))

-- ---- the order of two days of each year

pub order_of : (b : Bool) (over : Bool) (first last : YearlyDay) (y : ℕ) (m n : ℤ) → IsDayIn first y m → IsDayIn last y n
    → IsTrue b ↔ IsOrder over m n → IsTrue b ↔ IsInOrder over first last y
order_of b over first last y m n begins ends is = (
  (λ yes p q h k. rw (one_day first y p m h begins, one_day last y q n k ends) (is.0 yes)),
  (λ all. is.1 (all m n begins ends)),
)

pub next_of : (b : Bool) (first last : YearlyDay) (y : ℕ) (m n : ℤ) → has_each_year first ≡ true → has_each_year last ≡ true
    → IsDayIn last y m → IsDayIn first (y + 1) n → IsTrue b ↔ (m <ℤ n) → IsTrue b ↔ IsInNextOrder false first last y
next_of b first last y m n has there ends begins is = (
  (λ yes p q r s a h k c. (
    (λ e. rw (one_day last y q m h ends, one_day first (y + 1) r n k begins) (is.0 yes)),
    (λ e. absurd cc),
  )),
  (λ all.
      let a = day_there first y has in
      let d = day_there last (y + 1) there in
      is.1 ((all a.0 m n d.0 a.1 ends begins d.1).0 refl)),
)

pub over_of : (b : Bool) (first last : YearlyDay) (y : ℕ) (m n : ℤ) → has_each_year first ≡ true → has_each_year last ≡ true
    → IsDayIn first y m → IsDayIn last (y + 1) n → IsTrue b ↔ (m ≤ℤ n) → IsTrue b ↔ IsInNextOrder true first last y
over_of b first last y m n has there begins ends is = (
  (λ yes p q r s h a c k. (
    (λ e. absurd cc),
    (λ e. rw (one_day first y p m h begins, one_day last (y + 1) s n k ends) (is.0 yes)),
  )),
  (λ all.
      let c = day_there first (y + 1) has in
      let d = day_there last y there in
      is.1 ((all m d.0 c.0 n begins d.1 c.1 ends).1 refl)),
)

-- the order of one year says whether ranges go on to the next
pub over_is : (b over : Bool) (first last : YearlyDay) → IsTrue b ↔ IsInOrder true first last 1800
    → IsEasterRange over first last → over ≡ b
over_is true true first last is range = refl
over_is false false first last is range = refl
over_is false true first last is range = absurd (no (is.1 (range.3.0 1800 (omega arith) (omega arith))))
  where
    no : IsTrue false → ⊥
    no e = cc
over_is true false first last is range =
    let a = day_there first 1800 range.0 in
    let b = day_there last 1800 range.1 in
    absurd (late a.0 b.0 ((range.3.0 1800 (omega arith) (omega arith) a.0 b.0 a.1 b.1).0 refl)
    ((is.0 refl a.0 b.0 a.1 b.1).1 refl))
  where
    late : (a b : ℤ) → a ≤ℤ b → b <ℤ a → ⊥
    late a b p q = omega (arith, signed_arith, p, q)

-- ---- near its year

-- the first months of a year
spring : (y : ℤ) → (56 ≤ days_of_months y 2) × (days_of_months y 3 ≤ 93)
spring y =
    let none = days_of_months-zero y in
    let one = days_of_months-next y 0 in
    let two = days_of_months-next y 1 in
    let three = days_of_months-next y 2 in
    let jan = month_length_bounds y 1 in
    let feb = month_length_bounds y 2 in
    let mar = month_length_bounds y 3 in
    sums (days_of_months y 0) (days_of_months y 1) (days_of_months y 2) (days_of_months y 3) (month_length y 1)
    (month_length y 2) (month_length y 3) none one two three jan.0 jan.1 feb.0 feb.1 mar.0
  where
    sums : (z a b c k l m : ℕ) → z ≡ 0 → a ≡ z + k → b ≡ a + l → c ≡ b + m → k ≤ 31 → 28 ≤ k → l ≤ 31 → 28 ≤ l → m ≤ 31
        → (56 ≤ b) × (c ≤ 93)
    sums z a b c k l m e f g h p q r s t = (omega (arith, e, f, g, q, s), omega (arith, e, f, g, h, p, r, t))

spring_days : (y : ℤ) → ((first_day y +ℤ pos 77) ≤ℤ day_number y 3 22) × (day_number y 4 25 ≤ℤ (first_day y +ℤ pos 117))
unfolding day_number
spring_days y =
    let few = spring y in
    (low (first_day y) (days_of_months y 2) few.0, high (first_day y) (days_of_months y 3) few.1)
  where
    low : (a : ℤ) (k : ℕ) → 56 ≤ k → (a +ℤ pos 77) ≤ℤ (a +ℤ pos (k + 21))
    low a k h = omega (arith, signed_arith, h)

    high : (a : ℤ) (k : ℕ) → k ≤ 93 → (a +ℤ pos (k + 24)) ≤ℤ (a +ℤ pos 117)
    high a k h = omega (arith, signed_arith, h)

-- the day is at most 300 days before its year, and less than 200 after it
abbrev IsNearYear : ℤ → ℤ → Type 0
IsNearYear y n = (first_day y ≤ℤ (n +ℤ pos 300)) × (n <ℤ (first_day (y +ℤ pos 1) +ℤ pos 200))

date_near : (n y : ℤ) (m d : ℕ) → IsDateOf n y m d → (first_day y ≤ℤ n) × (n <ℤ first_day (y +ℤ pos 1))
date_near n y m d h =
    let lies = day_number-in_year y m d h.0 in
    within n (day_number y m d) (first_day y) (first_day (y +ℤ pos 1)) (year_length y) h.1 lies.0 lies.1 (first_day-next y)
  where
    within : (n k a b : ℤ) (long : ℕ) → n ≡ k → a ≤ℤ k → k <ℤ (a +ℤ pos long) → b ≡ a +ℤ pos long → (a ≤ℤ n) × (n <ℤ b)
    within n k a b long e p q f = (omega (arith, signed_arith, e, p), omega (arith, signed_arith, e, q, f))

from_near : (before : Bool) (days : ℕ) (n m a b : ℤ) → days ≤ 27 → n ≡ day_from before days m → a ≤ℤ m → m <ℤ b
    → (a ≤ℤ (n +ℤ pos 300)) × (n <ℤ (b +ℤ pos 200))
from_near true days n m a b few e p q =
    (omega (arith, signed_arith, few, e, p), omega (arith, signed_arith, few, e, q))
from_near false days n m a b few e p q =
    (omega (arith, signed_arith, few, e, p), omega (arith, signed_arith, few, e, q))

near_end : (e : End) (y n : ℤ) → IsEndIn e y n → IsNearYear y n
near_end (end.Date date) y n h =
    let lies = date_near n y date.month date.day h in
    from_near false 0 n n (first_day y) (first_day (y +ℤ pos 1)) (omega arith) (omega (arith, signed_arith)) lies.0 lies.1
near_end (end.Place x) y n h =
    let f : DayFields = h.1 in
    let m : ℤ = h.0 in
    let lies = rw h.3 at (date_near m f.year f.month f.day h.2.date) in
    from_near x.place.is_before x.place.days n m (first_day y) (first_day (y +ℤ pos 1)) x.place.in_range.1 h.6 lies.0 lies.1

-- a place is a day of the calendar, in all years but its first and its last
pub place_near : (x : MonthPlace) (y : ℕ) (n : ℤ) → (1801 ≤ y) × (y ≤ 2798) → IsEndIn (end.Place x) (pos y) n
    → IsCalendarDay n
place_near x y n range h =
    let near = near_end (end.Place x) (pos y) n h in
    let low = range.0 in
    let high = range.1 in
    let first = in_order (pos 1801) (pos y) (omega (arith, signed_arith, low)) in
    let last = in_order (pos y +ℤ pos 1) (pos 2799) (omega (arith, signed_arith, high)) in
    let begin = first_day-next (pos 1800) in
    let stop = first_day-next (pos 2799) in
    within n (first_day (pos 1800)) (first_day (pos 1801)) (first_day (pos y)) (first_day (pos y +ℤ pos 1)) (first_day (pos 2799))
    (first_day (pos 2800)) (year_length (pos 1800)) (year_length (pos 2799)) near.0 near.1 first last begin stop
    (long_year (pos 1800)).0 (long_year (pos 2799)).0 first_day-1800 first_day-2800
  where
    within : (n a b p q c d : ℤ) (k l : ℕ) → p ≤ℤ (n +ℤ pos 300) → n <ℤ (q +ℤ pos 200) → b ≤ℤ p → q ≤ℤ c → b ≡ a +ℤ pos k
        → d ≡ c +ℤ pos l → 365 ≤ k → 365 ≤ l → a ≡ neg_ℤ (pos 62_091) → d ≡ pos 303_151 → IsCalendarDay n
    within n a b p q c d k l h i j m e f r s t u =
        (omega (arith, signed_arith, h, j, e, r, t), omega (arith, signed_arith, i, m, f, s, u))

pub near_day : LiesBetween → (x : YearlyDay) (y : ℕ) (n : ℤ) → IsDayIn x y n → IsNearYear (pos y) n
near_day between (Calendar e) y n h = near_end e (pos y) n h
near_day between (Easter offset) y n h =
    let b = between y (n -ℤ offset.days) h in
    let s = spring_days (pos y) in
    chain n offset.days (day_number (pos y) 3 22) (day_number (pos y) 4 25) (first_day (pos y)) (first_day (pos y +ℤ pos 1))
    (year_length (pos y)) b.0 b.1 s.0 s.1 offset.in_range.0 offset.in_range.1 (first_day-next (pos y)) (long_year (pos y)).0
  where
    chain : (n d p q a b : ℤ) (long : ℕ) → p ≤ℤ (n -ℤ d) → (n -ℤ d) ≤ℤ q → (a +ℤ pos 77) ≤ℤ p → q ≤ℤ (a +ℤ pos 117)
        → neg_ℤ (pos 366) ≤ℤ d → d ≤ℤ pos 366 → b ≡ a +ℤ pos long → 365 ≤ long
        → (a ≤ℤ (n +ℤ pos 300)) × (n <ℤ (b +ℤ pos 200))
    chain n d p q a b long h i j k r s e l =
        (omega (arith, signed_arith, h, j, r), omega (arith, signed_arith, i, k, s, e, l))

-- ---- the years of ranges that have days in some years

cases_of : (a b : ℕ) → (a ≤ b) ⊎ (b < a)
cases_of a b = elim (cases_lt b a) [ inl lt ↦ inr lt | inr le ↦ inl le ]

last_year_most : (over : Bool) (y : ℕ) → last_year over y ≤ y + 1
last_year_most true y = omega arith
last_year_most false y = omega arith

pub range_near : LiesBetween → (years : KnownYears) (over : Bool) (first last : YearlyDay) (y : ℕ) (n : ℤ)
    → IsOfYears years.first years.last n → IsInRangeOf over first last y n → (years.first - 2 ≤ y) × (y < years.last + 2)
range_near between years over first last y n of h =
    let known = years.in_range.0 in (
      elim (cases_of (years.first - 2) y) [
        | inl le ↦ le
        | inr lt ↦ (let f : ℤ = pos (years.first - 1) in
            let z : ℕ = last_year over y in
            let most = last_year_most over y in
            let near = near_day between last z h.1 h.3 in
            let order = in_order (pos z +ℤ pos 1) f (omega (arith, signed_arith, lt, most)) in
            let at : f +ℤ pos 1 ≡ pos years.first = omega (arith, signed_arith, known) in
            let next = rw at at (first_day-next f) in
            absurd (early n h.1 (first_day (pos z +ℤ pos 1)) (first_day f) (first_day (pos years.first)) (year_length f) of.0 h.5
            near.1 order next (long_year f).0))
      ],
      elim (cases_of (years.last + 2) y) [
        | inl le ↦ (let l : ℤ = pos (years.last + 1) in
            let near = near_day between first y h.0 h.2 in
            let order = in_order (l +ℤ pos 1) (pos y) (omega (arith, signed_arith, le)) in
            absurd (late n h.0 (first_day (pos y)) (first_day (l +ℤ pos 1)) (first_day l) (year_length l) of.1 h.4 near.0 order
            (first_day-next l) (long_year l).0))
        | inr lt ↦ lt
      ],
    )
  where
    early : (n b p f g : ℤ) (long : ℕ) → g ≤ℤ n → n ≤ℤ b → b <ℤ (p +ℤ pos 200) → p ≤ℤ f → g ≡ f +ℤ pos long → 365 ≤ long → ⊥
    early n b p f g long h i j k e l = omega (arith, signed_arith, h, i, j, k, e, l)

    late : (n a p m l : ℤ) (long : ℕ) → n <ℤ l → a ≤ℤ n → p ≤ℤ (a +ℤ pos 300) → m ≤ℤ p → m ≡ l +ℤ pos long → 365 ≤ long → ⊥
    late n a p m l long h i j k e f = omega (arith, signed_arith, h, i, j, k, e, f)

-- ---- one year after another

-- so it is of one of the years before this one
abbrev pub IsBefore : (ℕ → ℤ → Type 0) → ℕ → ℕ → ℤ → Type 0
IsBefore Is first until n = (y : ℕ) × (first ≤ y) × (y < until) × Is y n

pub none_before : (Is : ℕ → ℤ → Type 0) (IsOf IsOld : ℤ → Type 0) (first : ℕ) (n : ℤ)
    → IsOld n ↔ (IsOld n ⊎ (IsOf n × IsBefore Is first first n))
none_before Is IsOf IsOld first n = (
  (λ h. inl h),
  (λ h. elim h [ inl old ↦ old | inr x ↦ (let a = x.1.1 in let b = x.1.2 in absurd (omega (arith, a, b))) ]),
)

pub one_more : (Is : ℕ → ℤ → Type 0) (IsOf IsNew IsMid IsOld : ℤ → Type 0) (first until : ℕ) → first ≤ until
    → ((n : ℤ) → IsMid n ↔ (IsOld n ⊎ (IsOf n × IsBefore Is first until n)))
    → ((n : ℤ) → IsNew n ↔ (IsMid n ⊎ (IsOf n × Is until n)))
    → (n : ℤ) → IsNew n ↔ (IsOld n ⊎ (IsOf n × IsBefore Is first (until + 1) n))
one_more Is IsOf IsNew IsMid IsOld first until order mid added n = (
  (λ h. elim ((added n).0 h) [
    | inl m ↦ elim ((mid n).0 m) [
      | inl old ↦ inl old
      | inr x ↦ inr (x.0, (x.1.0, x.1.1, (let lt = x.1.2 in omega (arith, lt)), x.1.3))
    ]
    | inr x ↦ inr (x.0, (until, order, omega arith, x.1))
  ]),
  (λ h. (added n).1 (elim h [
    | inl old ↦ inl ((mid n).1 (inl old))
    | inr x ↦ let lt = x.1.2 in elim (cases_eq x.1.0 until) [
      | inl e ↦ inr (x.0, rw e at x.1.3)
      | inr other ↦ inl ((mid n).1 (inr (x.0, (x.1.0, x.1.1, omega (arith, lt, other), x.1.3))))
    ]
  ])),
)

pub all_years : LiesBetween → (years : KnownYears) (over : Bool) (first last : YearlyDay) (until : ℕ) (IsNew IsOld : ℤ → Type 0)
    → years.last + 2 ≤ until
    → ((n : ℤ) → IsNew n
    ↔ (IsOld n ⊎ (IsOfYears years.first years.last n × IsBefore (IsInRangeOf over first last) (years.first - 2) until n)))
    → (n : ℤ) → IsNew n ↔ (IsOld n ⊎ (IsOfYears years.first years.last n × IsInRange over first last n))
all_years between years over first last until IsNew IsOld done added n = (
  (λ h. elim ((added n).0 h) [ inl old ↦ inl old | inr x ↦ inr (x.0, (x.1.0, x.1.3)) ]),
  (λ h. (added n).1 (elim h [
    | inl old ↦ inl old
    | inr x ↦ let near = range_near between years over first last x.1.0 n x.0 x.1.1 in
        inr (x.0, (x.1.0, near.0, (let lt = near.1 in omega (arith, lt, done)), x.1.1))
  ])),
)

-- the part of a range that lies in the years, by its first and its last day
pub range_added : (years : KnownYears) (over : Bool) (first last : YearlyDay) (y : ℕ) (a b : ℤ) (IsNew IsOld : ℤ → Type 0)
    → IsDayIn first y a → IsDayIn last (last_year over y) b
    → ((n : ℤ) → IsNew n
    ↔ (IsOld n ⊎ (IsOfYears years.first years.last (n -ℤ pos 0) × (a ≤ℤ (n -ℤ pos 0)) × ((n -ℤ pos 0) ≤ℤ b))))
    → (n : ℤ) → IsNew n ↔ (IsOld n ⊎ (IsOfYears years.first years.last n × IsInRangeOf over first last y n))
range_added years over first last y a b IsNew IsOld begins ends added n =
    let e : n -ℤ pos 0 ≡ n = omega (arith, signed_arith) in
    let is = rw e at (added n) in (
      (λ h. elim (is.0 h) [ inl old ↦ inl old | inr x ↦ inr (x.0, (a, b, begins, ends, x.1, x.2)) ]),
      (λ h. is.1 (elim h [
        | inl old ↦ inl old
        | inr x ↦ (let r = x.1 in
            let p = one_day first y r.0 a r.2 begins in
            let q = one_day last (last_year over y) r.1 b r.3 ends in
            inr (x.0, (rw p at r.4), (rw q at r.5)))
      ])),
    )
