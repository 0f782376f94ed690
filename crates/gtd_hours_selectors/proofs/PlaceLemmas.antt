-- Places of weekdays by the count of their month, and the places that days are counted on from.
use Rattle.std.proofs.Common.{◌≡◌, ◌↔◌, ◌∙◌, refl, sym, ap, arith, ℕ, ◌+◌, ◌-◌, ◌*◌, ◌/◌, ◌%◌, ◌<◌, ◌≤◌, ◌||◌, ◌&&◌, not, nat_le}
use Rattle.std.proofs.Common.{Bool, true, false, cond, inl, inr, subst, ℤ, pos, ◌+ℤ◌, ◌-ℤ◌, ◌≤ℤ◌, ◌<ℤ◌}
use Rattle.std.proofs.lemmas.Bool.{cases_lt}
use Rattle.std.proofs.lemmas.Bool.Decides.{nat_tests}
use Rattle.std.proofs.lemmas.Int.{by_lt_z}
use Rattle.std.specs.Int.{int_rem_euclid}
use Rattle.gtd_calendar.specs.facts.Signed.{signed_arith, one_part}
use Rattle.gtd_calendar.specs.declared.day.DayFields.{DayFields}
use Rattle.gtd_calendar.specs.Calendar.{day_number, first_day, days_of_months, month_length, weekday_of}
use Rattle.gtd_calendar.specs.ComputedDates.{year_of, month_of, day_of_month}
use Rattle.gtd_calendar.specs.ComputedEnds.{counted_year, counted_month, month_count}
use Rattle.gtd_calendar.specs.ComputedFields.{day_fields}
use Rattle.gtd_calendar.specs.facts.DateLemmas.{date_of-is, month_length_bounds}
use Rattle.gtd_calendar.specs.facts.FieldLemmas.{fields-are, fields-only}
use Rattle.gtd_calendar.specs.facts.MonthLemmas.{month_first, month_first-next, counted-is, counted-parts}
use Rattle.gtd_hours.specs.Moving.{IsAtPlace, IsMovedFrom, day_from, days_on, weeks_back}
use Rattle.gtd_hours.specs.Ranges.{IsMonth, IsMovable, IsWeekday}
use Rattle.gtd_hours.specs.ComputedPlaces.{place_between, place_day}
use Rattle.gtd_hours.specs.declared.places.MovedPlace.{MovedPlace}
use Rattle.gtd_hours.specs.facts.PlaceFacts.{place-only, place-there, weekday-after, weekday-in}
use Rattle.gtd_hours_selectors.specs.Days.{HasPlace, on_back, on_number}
use Rattle.gtd_hours_leaves.specs.facts.MonthFacts.{count, count-lies, month-in, order}

-- ---- months by their counts

pub first-at : (y : ℤ) (m : ℕ) → IsMonth m → day_number y m 1 ≡ month_first (month_count y m)
unfolding day_number
first-at y m r =
    let at = counted-is (month_count y m) y (m - 1) (omega (arith, r.0, r.1)) refl in
    let same : m - 1 + 1 - 1 ≡ m - 1 = omega arith in
    rw (at.0, at.1, same) (none (first_day y) (days_of_months y (m - 1)))
  where
    none : (a : ℤ) (p : ℕ) → a +ℤ pos (p + (1 - 1)) ≡ a +ℤ pos p
    none a p = omega (arith, signed_arith)

first-on : (y : ℤ) (m k : ℕ) → day_number y m (1 + k) ≡ day_number y m 1 +ℤ pos k
unfolding day_number
first-on y m k = moved (first_day y) (days_of_months y (m - 1)) k
  where
    moved : (a : ℤ) (p k : ℕ) → a +ℤ pos (p + (1 + k - 1)) ≡ (a +ℤ pos (p + (1 - 1))) +ℤ pos k
    moved a p k = omega (arith, signed_arith)

last-at : (y : ℤ) (m : ℕ) → IsMonth m
    → day_number y m (month_length y m) ≡ month_first (month_count y m +ℤ pos 1) -ℤ pos 1
last-at y m r =
    let t = month_count y m in
    let at = counted-is t y (m - 1) (omega (arith, r.0, r.1)) refl in
    let back : m - 1 + 1 ≡ m = omega (arith, r.0) in
    let long : month_length (counted_year t) (counted_month t) ≡ month_length y m = rw (at.0, at.1, back) refl in
    let whole : 1 + (month_length y m - 1) ≡ month_length y m = some (month_length y m) (month_length_bounds y m).1 in
    let on = rw whole at (first-on y m (month_length y m - 1)) in
    ends (day_number y m (month_length y m)) (day_number y m 1) (month_first t) (month_first (t +ℤ pos 1)) (month_length y m) _
    (month_length_bounds y m).1 on (first-at y m r) (month_first-next t) long
  where
    some : (k : ℕ) → 28 ≤ k → 1 + (k - 1) ≡ k
    some k le = omega (arith, le)

    ends : (a b f n : ℤ) (k l : ℕ) → 28 ≤ k → a ≡ b +ℤ pos (k - 1) → b ≡ f → n ≡ f +ℤ pos l → l ≡ k → a ≡ n -ℤ pos 1
    ends a b f n k l le e g h i = omega (arith, signed_arith)

pub long-month : (t : ℤ) → (month_first t +ℤ pos 28) ≤ℤ month_first (t +ℤ pos 1)
long-month t =
    far (month_first t) (month_first (t +ℤ pos 1)) _ (month_first-next t)
    (month_length_bounds (counted_year t) (counted_month t)).1
  where
    far : (a b : ℤ) (k : ℕ) → b ≡ a +ℤ pos k → 28 ≤ k → (a +ℤ pos 28) ≤ℤ b
    far a b k e le = omega (arith, signed_arith)

-- ---- places

-- the place of a weekday in the month at a count
abbrev pub place_at : Bool → ℕ → ℕ → ℤ → ℤ
place_at back w k t = place_between back w k (month_first t) (month_first (t +ℤ pos 1) -ℤ pos 1)

pub place-at : (back : Bool) (w k : ℕ) (y : ℤ) (m : ℕ) → IsMonth m → place_day back w k y m ≡ place_at back w k (month_count y m)
unfolding place_day
place-at back w k y m r = rw (first-at y m r, last-at y m r) refl

pub has-place : (back : Bool) (w k : ℕ) (n : ℤ) → IsWeekday w → HasPlace back w k n → n ≡ place_at back w k (count n)
has-place back w k n weekday h =
    place-only back w k n weekday h.0 h.1 ∙ place-at back w k (year_of n) (month_of n) (month-in n)

pub place-has : (back : Bool) (w k : ℕ) (t : ℤ) → IsWeekday w → (1 ≤ k) × (k ≤ 4)
    → HasPlace back w k (place_at back w k t) × (count (place_at back w k t) ≡ t)
place-has back w k t weekday range =
    let p = counted-parts t in
    let n = place_day back w k (counted_year t) (counted_month t) in
    let there = place-there back w k (counted_year t) (counted_month t) (p.1, p.2) weekday range in
    let e : n ≡ place_at back w k t =
    place-at back w k (counted_year t) (counted_month t) (p.1, p.2) ∙ ap (λ (u : ℤ). place_at back w k u) (sym p.0) in
    let counted : count n ≡ t = rw (there.0, there.1) (sym p.0) in
    (subst (λ (z : ℤ). HasPlace back w k z) e (there.2, there.3), subst (λ (z : ℤ). count z ≡ t) e counted)

-- ---- the same place comes again after 28 days at the earliest

weeks-apart : (n m : ℤ) → weekday_of n ≡ weekday_of m → (n +ℤ pos 22) ≤ℤ m → (n +ℤ pos 28) ≤ℤ m
unfolding weekday_of
weeks-apart n m same far =
    let a = one_part (int_rem_euclid (n +ℤ pos 4) (pos 7)) in
    let b = one_part (int_rem_euclid (m +ℤ pos 4) (pos 7)) in
    omega (arith, signed_arith)

week-same : (n m : ℤ) → weekday_of n ≡ weekday_of m → n <ℤ m → m ≤ℤ (n +ℤ pos 6) → ⊥
unfolding weekday_of
week-same n m same lt near =
    let a = one_part (int_rem_euclid (n +ℤ pos 4) (pos 7)) in
    let b = one_part (int_rem_euclid (m +ℤ pos 4) (pos 7)) in
    omega (arith, signed_arith)

-- a place from the beginning is so many days after the first of its month, and one from the end before the first of the next
front-lies : (w k : ℕ) (n : ℤ) → HasPlace false w k n → let f = month_first (count n) in
    ((f +ℤ pos (7 * (k - 1))) ≤ℤ n) × (n ≤ℤ (f +ℤ pos (7 * (k - 1) + 6)))
front-lies w k n h = lies n (month_first (count n)) (day_of_month n) k (date_of-is n).0.1.0 (count-lies n).0 h.1
  where
    lies : (n f : ℤ) (d k : ℕ) → 1 ≤ d → n ≡ f +ℤ pos (d - 1) → (d - 1) / 7 + 1 ≡ k
        → ((f +ℤ pos (7 * (k - 1))) ≤ℤ n) × (n ≤ℤ (f +ℤ pos (7 * (k - 1) + 6)))
    lies n f d k low e place = (omega (arith, signed_arith), omega (arith, signed_arith))

back-lies : (w k : ℕ) (n : ℤ) → HasPlace true w k n → let f = month_first (count n +ℤ pos 1) in
    ((n +ℤ pos (7 * (k - 1) + 1)) ≤ℤ f) × (f ≤ℤ (n +ℤ pos (7 * (k - 1) + 7)))
back-lies w k n h =
    let is = date_of-is n in
    let t = count n in
    let at = counted-is t (year_of n) (month_of n - 1) (omega (arith, is.0.0.0, is.0.0.1)) refl in
    let back : month_of n - 1 + 1 ≡ month_of n = omega (arith, is.0.0.0) in
    let long : month_length (counted_year t) (counted_month t) ≡ month_length (year_of n) (month_of n) =
    rw (at.0, at.1, back) refl in
    lies n (month_first t) (month_first (t +ℤ pos 1)) (day_of_month n) k _ (month_length (year_of n) (month_of n)) is.0.1.0
    is.0.1.1 (count-lies n).0 (month_first-next t) long h.1
  where
    lies : (n f g : ℤ) (d k l long : ℕ) → 1 ≤ d → d ≤ long → n ≡ f +ℤ pos (d - 1) → g ≡ f +ℤ pos l → l ≡ long
        → (long - d) / 7 + 1 ≡ k
        → ((n +ℤ pos (7 * (k - 1) + 1)) ≤ℤ g) × (g ≤ℤ (n +ℤ pos (7 * (k - 1) + 7)))
    lies n f g d k l long low high e h i place = (omega (arith, signed_arith), omega (arith, signed_arith))

next : (t u : ℤ) → t <ℤ u → (t +ℤ pos 1) ≤ℤ u
next t u lt = omega (arith, signed_arith)

-- days near the first days of two months, as far from them as each other
apart : (f : ℤ → ℤ) → ((t u : ℤ) → t ≤ℤ u → f t ≤ℤ f u) → ((t : ℤ) → (f t +ℤ pos 28) ≤ℤ f (t +ℤ pos 1)) → (n m t u : ℤ)
    → (low : ℤ) → ((f t +ℤ low) ≤ℤ n) × (n ≤ℤ ((f t +ℤ low) +ℤ pos 6)) → ((f u +ℤ low) ≤ℤ m) × (m ≤ℤ ((f u +ℤ low) +ℤ pos 6))
    → weekday_of n ≡ weekday_of m → n <ℤ m → (n +ℤ pos 28) ≤ℤ m
apart f rise step n m t u low a b same lt =
    by_lt_z t u
    (λ later. weeks-apart n m same
    (far n m (f t) (f (t +ℤ pos 1)) (f u) low (step t) (rise (t +ℤ pos 1) u (next t u later)) a.1 b.0))
    (λ le.
    by_lt_z u t
    (λ earlier. absurd
    (crossed n m (f u) (f (u +ℤ pos 1)) (f t) low (step u) (rise (u +ℤ pos 1) t (next u t earlier)) b.1 a.0 lt))
    (λ ge.
    let e : u ≡ t = omega (arith, signed_arith, le, ge) in
    absurd (week-same n m same lt (near n m (f t) low a.0 (subst (λ (v : ℤ). m ≤ℤ ((f v +ℤ low) +ℤ pos 6)) e b.1)))))
  where
    far : (n m a b c low : ℤ) → (a +ℤ pos 28) ≤ℤ b → b ≤ℤ c → n ≤ℤ ((a +ℤ low) +ℤ pos 6) → (c +ℤ low) ≤ℤ m → (n +ℤ pos 22) ≤ℤ m
    far n m a b c low p q r s = omega (arith, signed_arith)

    crossed : (n m a b c low : ℤ) → (a +ℤ pos 28) ≤ℤ b → b ≤ℤ c → m ≤ℤ ((a +ℤ low) +ℤ pos 6) → (c +ℤ low) ≤ℤ n → n <ℤ m → ⊥
    crossed n m a b c low p q r s lt = omega (arith, signed_arith)

    near : (n m a low : ℤ) → (a +ℤ low) ≤ℤ n → m ≤ℤ ((a +ℤ low) +ℤ pos 6) → m ≤ℤ (n +ℤ pos 6)
    near n m a low p q = omega (arith, signed_arith)

pub far-apart : (back : Bool) (w k : ℕ) (n m : ℤ) → HasPlace back w k n → HasPlace back w k m → n <ℤ m → (n +ℤ pos 28) ≤ℤ m
far-apart false w k n m h g lt =
    let a = front-lies w k n h in
    let b = front-lies w k m g in
    apart (λ (t : ℤ). month_first t) order long-month n m (count n) (count m) (pos (7 * (k - 1)))
    (a.0, after n (month_first (count n)) (7 * (k - 1)) a.1) (b.0, after m (month_first (count m)) (7 * (k - 1)) b.1)
    (h.0 ∙ sym g.0) lt
  where
    after : (n f : ℤ) (j : ℕ) → n ≤ℤ (f +ℤ pos (j + 6)) → n ≤ℤ ((f +ℤ pos j) +ℤ pos 6)
    after n f j le = omega (arith, signed_arith)
far-apart true w k n m h g lt =
    let a = back-lies w k n h in
    let b = back-lies w k m g in
    let low = pos 0 -ℤ pos (7 * (k - 1) + 7) in
    let p = before n (month_first (count n +ℤ pos 1)) (7 * (k - 1)) a.0 a.1 in
    let q = before m (month_first (count m +ℤ pos 1)) (7 * (k - 1)) b.0 b.1 in
    apart (λ (t : ℤ). month_first (t +ℤ pos 1)) (λ t u le. order (t +ℤ pos 1) (u +ℤ pos 1) (omega (arith, signed_arith, le)))
    (λ t. long-month (t +ℤ pos 1)) n m (count n) (count m) low p q (h.0 ∙ sym g.0) lt
  where
    before : (n f : ℤ) (j : ℕ) → (n +ℤ pos (j + 1)) ≤ℤ f → f ≤ℤ (n +ℤ pos (j + 7))
        → ((f +ℤ (pos 0 -ℤ pos (j + 7))) ≤ℤ n) × (n ≤ℤ ((f +ℤ (pos 0 -ℤ pos (j + 7))) +ℤ pos 6))
    before n f j p q = (omega (arith, signed_arith), omega (arith, signed_arith))

-- ---- places that days are counted on from

abbrev out : Bool → Bool → ℕ → ℕ → Bool
out back before number days = not back && nat_le number (weeks_back before days)

-- the count of the month of that place
abbrev pub on_month : Bool → ℤ → ℤ
on_month out t = cond out (t -ℤ pos 1) t

on-front : (before leads : Bool) (w number days : ℕ) → leads ≡ nat_le number (weeks_back before days)
    → (1 ≤ number) × (days ≤ 27) → IsWeekday w → (t : ℤ)
    → day_from before days (place_at false w number t)
    ≡ place_at leads w (cond leads (weeks_back before days + 1 - number) (number - weeks_back before days)) (on_month leads t)
    +ℤ pos (days_on before days)
on-front false false w number days is range weekday t =
    plain (month_first t) ((w + 7 - weekday_of (month_first t)) % 7) number days
  where
    plain : (f : ℤ) (j n d : ℕ) → (f +ℤ pos (j + 7 * (n - 1))) +ℤ pos d ≡ (f +ℤ pos (j + 7 * (n - 0 - 1))) +ℤ pos d
    plain f j n d = omega (arith, signed_arith)
on-front false true w number days is range weekday t = absurd (none number (sym is) range.0)
  where
    none : (n : ℕ) → nat_le n 0 ≡ true → 1 ≤ n → ⊥
    none n e le = grind (arith, nat_tests)
on-front true false w number days is range weekday t =
    within (month_first t) ((w + 7 - weekday_of (month_first t)) % 7) number days (later number ((days + 6) / 7) (sym is))
  where
    later : (n k : ℕ) → nat_le n k ≡ false → k < n
    later n k e = grind (arith, nat_tests)

    within : (f : ℤ) (j n d : ℕ) → (d + 6) / 7 < n → (f +ℤ pos (j + 7 * (n - 1))) -ℤ pos d
        ≡ (f +ℤ pos (j + 7 * (n - (d + 6) / 7 - 1))) +ℤ pos (7 * ((d + 6) / 7) - d)
    within f j n d lt = omega (arith, signed_arith)
on-front true true w number days is range weekday t =
    let f = month_first t in
    let last = f -ℤ pos 1 in
    let there : (t -ℤ pos 1) +ℤ pos 1 ≡ t = omega (arith, signed_arith) in
    let one : last +ℤ pos 1 ≡ f = omega (arith, signed_arith) in
    let after = rw one at (weekday-after last 1) in
    rw there (over f (weekday_of f) (weekday_of last) w number days (weekday-in last) weekday after
    (earlier number ((days + 6) / 7) (sym is)) range.0)
  where
    earlier : (n k : ℕ) → nat_le n k ≡ true → n ≤ k
    earlier n k e = grind (arith, nat_tests)

    over : (f : ℤ) (a b w n d : ℕ) → IsWeekday b → IsWeekday w → a ≡ (b - 1 + 1) % 7 + 1 → n ≤ (d + 6) / 7 → 1 ≤ n
        → (f +ℤ pos ((w + 7 - a) % 7 + 7 * (n - 1))) -ℤ pos d
        ≡ ((f -ℤ pos 1) -ℤ pos ((b + 7 - w) % 7 + 7 * ((d + 6) / 7 + 1 - n - 1))) +ℤ pos (7 * ((d + 6) / 7) - d)
    over f a b w n d at weekday e le low =
        let six : (w + 7 - a) % 7 + (b + 7 - w) % 7 ≡ 6 = omega (arith, at, weekday, e) in
        summed f ((w + 7 - a) % 7) ((b + 7 - w) % 7) n d ((d + 6) / 7) six le low (omega arith)
      where
        summed : (f : ℤ) (i j n d k : ℕ) → i + j ≡ 6 → n ≤ k → 1 ≤ n → d ≤ 7 * k
            → (f +ℤ pos (i + 7 * (n - 1))) -ℤ pos d ≡ ((f -ℤ pos 1) -ℤ pos (j + 7 * (k + 1 - n - 1))) +ℤ pos (7 * k - d)
        summed f i j n d k e le low fits = omega (arith, signed_arith)

on-back : (before : Bool) (w number days : ℕ) → 1 ≤ number → (t : ℤ)
    → day_from before days (place_at true w number t)
    ≡ place_at true w (number + weeks_back before days) t +ℤ pos (days_on before days)
on-back false w number days some t =
    plain (month_first (t +ℤ pos 1) -ℤ pos 1) ((weekday_of (month_first (t +ℤ pos 1) -ℤ pos 1) + 7 - w) % 7) number days
  where
    plain : (f : ℤ) (j n d : ℕ) → (f -ℤ pos (j + 7 * (n - 1))) +ℤ pos d ≡ (f -ℤ pos (j + 7 * (n + 0 - 1))) +ℤ pos d
    plain f j n d = omega (arith, signed_arith)
on-back true w number days some t =
    further (month_first (t +ℤ pos 1) -ℤ pos 1) ((weekday_of (month_first (t +ℤ pos 1) -ℤ pos 1) + 7 - w) % 7) number days some
  where
    further : (f : ℤ) (j n d : ℕ) → 1 ≤ n → (f -ℤ pos (j + 7 * (n - 1))) -ℤ pos d
        ≡ (f -ℤ pos (j + 7 * (n + (d + 6) / 7 - 1))) +ℤ pos (7 * ((d + 6) / 7) - d)
    further f j n d some = omega (arith, signed_arith)

-- days before a place are days after the other one
pub onward : (back before : Bool) (w number days : ℕ) → (1 ≤ number) × (days ≤ 27) → IsWeekday w → (t : ℤ)
    → let leads = not back && nat_le number (weeks_back before days) in
    day_from before days (place_at back w number t)
    ≡ place_at (back || leads) w (cond back (number + weeks_back before days)
    (cond leads (weeks_back before days + 1 - number) (number - weeks_back before days))) (on_month leads t)
    +ℤ pos (days_on before days)
onward true before w number days range weekday t = on-back before w number days range.0 t
onward false before w number days range weekday t =
    on-front before (nat_le number (weeks_back before days)) w number days refl range weekday t

chosen : (n k : ℕ) (b : Bool) → b ≡ nat_le n k → 1 ≤ n → n ≤ 4 → k ≤ 4
    → (1 ≤ cond b (k + 1 - n) (n - k)) × (cond b (k + 1 - n) (n - k) ≤ 4)
chosen n k true e low high few = (
  (let le : n ≤ k = (let y : nat_le n k ≡ true = sym e in grind (arith, nat_tests)) in omega (arith, le)),
  omega (arith, low, few),
)
chosen n k false e low high few = (
  (let lt : k < n = (let y : nat_le n k ≡ false = sym e in grind (arith, nat_tests)) in omega (arith, lt)),
  omega (arith, high),
)

-- the number of that place is one of those that each month has
pub on-range : (back before : Bool) (number days : ℕ) → IsMovable number back days before → 1 ≤ number
    → let leads = not back && nat_le number (weeks_back before days) in
    let k = cond back (number + weeks_back before days)
    (cond leads (weeks_back before days + 1 - number) (number - weeks_back before days)) in (1 ≤ k) × (k ≤ 4)
on-range true true number days h low =
    let most = h.3 refl refl in (omega (arith, low), omega (arith, most))
on-range true false number days h low = (omega (arith, low), omega (arith, h.0))
on-range false false number days h low = chosen number 0 (nat_le number 0) refl low h.0 (omega arith)
on-range false true number days h low =
    let few = h.1 in
    chosen number ((days + 6) / 7) (nat_le number ((days + 6) / 7)) refl low h.0 (omega (arith, few))

-- ---- the days of a place with days after or before it

-- a day is such a day exactly if that many days before it the other place is
pub moved-on : (x : MovedPlace) (n : ℤ)
    → HasPlace (on_back x) x.place.weekday (on_number x) (n -ℤ pos (days_on x.is_before x.days)) ↔ IsMovedFrom x n
moved-on x n =
    let w : ℕ = x.place.weekday in
    let q : ℕ = days_on x.is_before x.days in
    let range = on-range x.is_back x.is_before x.place.number x.days x.in_range x.place.in_range.1 in
    let weekday = x.place.in_range.0 in
    let on = onward x.is_back x.is_before w x.place.number x.days (x.place.in_range.1, x.in_range.1) weekday in
    let m = n -ℤ pos q in (
      (λ h.
          let t = back_month (not x.is_back && nat_le x.place.number (weeks_back x.is_before x.days)) (count m) in
          let there = place-has x.is_back w x.place.number t.0 weekday (x.place.in_range.1, x.in_range.0) in
          let at = place_at x.is_back w x.place.number t.0 in
          let is : m ≡ place_at (on_back x) w (on_number x) (count m) = has-place (on_back x) w (on_number x) m weekday h in
          let e = on t.0 ∙ ap (λ (u : ℤ). place_at (on_back x) w (on_number x) u +ℤ pos q) t.1 in
          (at, day_fields at, fields-are at, (there.0.0, there.0.1), reached n _ _ q e is)),
      (λ h.
          let a : ℤ = h.0 in
          let fields : h.1 ≡ day_fields a = fields-only a h.1 h.2 in
          let has = subst (λ (f : DayFields). IsAtPlace x f) fields h.3 in
          let is : a ≡ place_at x.is_back w x.place.number (count a) =
          has-place x.is_back w x.place.number a weekday (has.0, has.1) in
          let e = h.4 ∙ ap (λ (z : ℤ). day_from x.is_before x.days z) is ∙ on (count a) in
          let there = place-has (on_back x) w (on_number x)
          (on_month (not x.is_back && nat_le x.place.number (weeks_back x.is_before x.days)) (count a)) weekday range in
          subst (λ (z : ℤ). HasPlace (on_back x) w (on_number x) z) (before n _ q e) there.0),
    )
  where
    back_month : (out : Bool) (u : ℤ) → (t : ℤ) × (on_month out t ≡ u)
    back_month true u = (u +ℤ pos 1, omega (arith, signed_arith))
    back_month false u = (u, refl)

    reached : (n a b : ℤ) (q : ℕ) → a ≡ b +ℤ pos q → n -ℤ pos q ≡ b → n ≡ a
    reached n a b q e is = omega (arith, signed_arith)

    before : (n b : ℤ) (q : ℕ) → n ≡ b +ℤ pos q → b ≡ n -ℤ pos q
    before n b q e = omega (arith, signed_arith)

-- so many days and one from such a place on, without so many, are the last one alone
pub last-alone : (a b e : Type 0) (back : Bool) (w k q : ℕ) (n : ℤ) → q ≤ 27
    → (a ↔ ((j : ℕ) × (j < q + 1) × HasPlace back w k (n -ℤ pos j)))
    → (b ↔ ((j : ℕ) × (j < q) × HasPlace back w k (n -ℤ pos j)))
    → (e ↔ (a × (b → ⊥))) → e ↔ HasPlace back w k (n -ℤ pos q)
last-alone a b e back w k q n few all less both = (
  (λ h.
      let x = both.0 h in
      let y = all.0 x.0 in
      let j : ℕ = y.0 in
      elim (cases_lt j q) [
        | inl lt ↦ absurd (x.1 (less.1 (j, lt, y.2)))
        | inr ge ↦ let same : j ≡ q = omega (arith, ge, y.1) in subst (λ (i : ℕ). HasPlace back w k (n -ℤ pos i)) same y.2
      ]),
  (λ h. both.1 (
    all.1 (q, omega arith, h),
    (λ held.
        let y = less.0 held in
        let j : ℕ = y.0 in
        near n j q y.1 few (far-apart back w k (n -ℤ pos q) (n -ℤ pos j) h y.2 (later n j q y.1))),
  )),
)
  where
    later : (n : ℤ) (j q : ℕ) → j < q → (n -ℤ pos q) <ℤ (n -ℤ pos j)
    later n j q lt = omega (arith, signed_arith)

    near : (n : ℤ) (j q : ℕ) → j < q → q ≤ 27 → ((n -ℤ pos q) +ℤ pos 28) ≤ℤ (n -ℤ pos j) → ⊥
    near n j q lt few far = omega (arith, signed_arith)
