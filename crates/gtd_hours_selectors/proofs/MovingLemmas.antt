-- The days that ends are counted on from, and the days of ranges between two ends.
use Rattle.std.proofs.Common.{◌≡◌, ◌↔◌, ◌⊎◌, ◌∙◌, refl, sym, ap, arith, ℕ, ◌+◌, ◌-◌, ◌*◌, ◌<◌, ◌≤◌, ◌==◌, ◌&&◌, not, nat_le, min}
use Rattle.std.proofs.Common.{inl, inr, ◌≢◌, Bool, true, false, cond, subst, ℤ, pos, ◌+ℤ◌, ◌-ℤ◌, ◌*ℤ◌, ◌≤ℤ◌, ◌<ℤ◌, unsigned_abs}
use Rattle.std.proofs.lemmas.Bool.{cases_eq}
use Rattle.std.proofs.lemmas.Int.{by_lt_z}
use Rattle.gtd_calendar.specs.facts.Signed.{signed_arith, one_part}
use Rattle.gtd_core.specs.Ranges.{no_parts}
use Rattle.gtd_core.specs.Trees.{Tree, Single}
use Rattle.gtd_core.specs.declared.start.StartParts.{StartParts}
use Rattle.gtd_calendar.specs.Calendar.{day_number, first_day, days_of_months, month_length}
use Rattle.gtd_calendar.specs.ComputedDates.{year_of, month_of, day_of_month}
use Rattle.gtd_calendar.specs.ComputedEnds.{counted_year, counted_month, day_in_month, month_count, months_later}
use Rattle.gtd_calendar.specs.ComputedFields.{day_fields}
use Rattle.gtd_calendar.specs.facts.DateLemmas.{date_of-is, date_of-only, month_length_bounds}
use Rattle.gtd_calendar.specs.facts.MonthLemmas.{month_first, month_first-next}
use Rattle.gtd_recur.specs.FieldMatches.{HoldsOnDay}
use Rattle.gtd_eval.specs.Membership.{InTree}
use Rattle.gtd_hours.specs.ComputedPlaces.{end_day}
use Rattle.gtd_hours.specs.Moving.{IsInMoving, IsMovedFrom, IsMoving, days_on, day_from, end_days, end_month, is_yearly}
use Rattle.gtd_hours.specs.Moving.{last_year, months_between, weeks_back}
use Rattle.gtd_hours.specs.Ranges.{IsMonth}
use Rattle.gtd_hours.specs.declared.hours.MonthDay.{MonthDay}
use Rattle.gtd_hours.specs.declared.places.End.{End}
use Rattle.gtd_hours.specs.declared.places.End.TheVariants.{Date, Place}
use Rattle.gtd_hours.specs.declared.places.MonthPlace.{MonthPlace}
use Rattle.gtd_hours.specs.declared.places.MovedPlace.{MovedPlace}
use Rattle.gtd_hours.specs.declared.moving.Moving.{Moving}
use Rattle.gtd_hours.specs.facts.OrderFacts.{order-to}
use Rattle.gtd_hours.specs.facts.PlaceFacts.{end-is, end-only}
use Rattle.gtd_hours_selectors.specs.Days.{HasPlace, IsFrom, on_back, on_month_day}
use Rattle.gtd_hours_leaves.specs.Leaves.{clocked, minutes_of, moved_day, no_duration}
use Rattle.gtd_hours_selectors.specs.Days.{on_number, start_day}
use Rattle.gtd_hours_leaves.specs.declared.clock.Clock.{Clock}
use Rattle.gtd_hours_selectors.proofs.DateLemmas.{month-day-from, month-day-to}
use Rattle.gtd_hours_leaves.specs.facts.LeafFacts.{days-held, reach}
use Rattle.gtd_hours_leaves.specs.facts.MonthFacts.{count, count-lies, month-in, order, reach-months}
use Rattle.gtd_hours_selectors.proofs.PlaceLemmas.{has-place, last-alone, long-month, moved-on, on-range, onward, on_month}
use Rattle.gtd_hours_selectors.proofs.PlaceLemmas.{place-at, place-has, place_at}
use Rattle.gtd_hours_selectors.proofs.RangeLemmas.{EachYear, IsInMonth, IsPast, IsWithinOne, Rises, in_year}
use Rattle.gtd_hours_selectors.proofs.RangeLemmas.{crossed, range-from, range-to, rest-from, rest-or, soon}

months-rise : Rises (λ (t : ℤ). month_first t)
months-rise = (order, long-month)

pub lies-in : (n : ℤ) → IsInMonth (λ (t : ℤ). month_first t) (count n) n
lies-in n = (from n (month_first (count n)) (day_of_month n) (count-lies n).0, (count-lies n).1)
  where
    from : (n f : ℤ) (d : ℕ) → n ≡ f +ℤ pos (d - 1) → f ≤ℤ n
    from n f d e = omega (arith, signed_arith)

-- a day some months later is in the month that many later
later-lies : (n : ℤ) (k : ℕ) → IsInMonth (λ (t : ℤ). month_first t) (count n +ℤ pos k) (months_later n k)
unfolding months_later day_in_month day_number
later-lies n k =
    let t = count n +ℤ pos k in
    lies (first_day (counted_year t)) (month_first (t +ℤ pos 1)) (days_of_months (counted_year t) (counted_month t - 1))
    (day_of_month n) (month_length (counted_year t) (counted_month t)) (month_first-next t)
    (month_length_bounds (counted_year t) (counted_month t)).1
  where
    lies : (a b : ℤ) (p d long : ℕ) → b ≡ (a +ℤ pos p) +ℤ pos long → 28 ≤ long
        → ((a +ℤ pos p) ≤ℤ (a +ℤ pos (p + (min d long - 1)))) × ((a +ℤ pos (p + (min d long - 1))) <ℤ b)
    lies a b p d long e low = (omega (arith, signed_arith), omega (arith, signed_arith))

-- ---- the month of the day that an end is counted on from

-- the count of that month in the year 0
abbrev pub month_in : End → ℤ
month_in e = pos (end_month e) -ℤ pos 1

-- the place that an end is counted on from
abbrev leads : MonthPlace → Bool
leads x = not x.place.is_back && nat_le x.place.place.number (weeks_back x.place.is_before x.place.days)

start-is : (x : MonthPlace) (y : ℤ)
    → start_day (Place x) y
    ≡ place_at (on_back x.place) x.place.place.weekday (on_number x.place) (on_month (leads x) (month_count y x.month))
start-is x y =
    let p = x.place in
    let there = place-at p.is_back p.place.weekday p.place.number y x.month x.month_in in
    let on = onward p.is_back p.is_before p.place.weekday p.place.number p.days (p.place.in_range.1, p.in_range.1)
    p.place.in_range.0 (month_count y x.month) in
    before _ _ (days_on p.is_before p.days) (ap (λ (z : ℤ). day_from p.is_before p.days z) there ∙ on)
  where
    before : (a b : ℤ) (q : ℕ) → a ≡ b +ℤ pos q → a -ℤ pos q ≡ b
    before a b q e = omega (arith, signed_arith)

on-count : (out : Bool) (y : ℤ) (m : ℕ) → 1 ≤ m → on_month out (month_count y m) ≡ in_year y (pos (cond out (m - 1) m) -ℤ pos 1)
on-count true y m low = omega (arith, signed_arith)
on-count false y m low = omega (arith, signed_arith)

start-count : (e : End) → is_yearly e ≡ true → (y : ℤ) → count (start_day e y) ≡ in_year y (month_in e)
start-count (Date date) yearly y =
    let n = day_number y date.month date.day in
    let none : n -ℤ pos 0 ≡ n = omega (arith, signed_arith) in
    let only = date_of-only n y date.month date.day (end-is (Date date) y yearly) in
    rw none (counted (year_of n) y (month_of n) date.month (sym only.0) (sym only.1) date.in_range.0.0)
  where
    counted : (v y : ℤ) (k m : ℕ) → v ≡ y → k ≡ m → 1 ≤ m → month_count v k ≡ in_year y (pos m -ℤ pos 1)
    counted v y k m e f low = omega (arith, signed_arith)
start-count (Place x) yearly y =
    let p = x.place in
    let range = on-range p.is_back p.is_before p.place.number p.days p.in_range p.place.in_range.1 in
    let u = on_month (leads x) (month_count y x.month) in
    let has = place-has (on_back p) p.place.weekday (on_number p) u p.place.in_range.0 range in
    ap (λ (z : ℤ). count z) (start-is x y) ∙ has.1 ∙ on-count (leads x) y x.month x.month_in.0

pub start-month : (e : End) → is_yearly e ≡ true → EachYear (λ (t : ℤ). month_first t) (month_in e) (λ (y : ℤ). start_day e y)
start-month e yearly y =
    subst (λ (t : ℤ). IsInMonth (λ (u : ℤ). month_first u) t (start_day e y)) (start-count e yearly y) (lies-in (start_day e y))

-- and of the day some months later
later-month : (e : End) → is_yearly e ≡ true → (k : ℕ)
    → EachYear (λ (t : ℤ). month_first t) (month_in e +ℤ pos k) (λ (y : ℤ). months_later (start_day e y) k)
later-month e yearly k y =
    let n = start_day e y in
    let e2 : count n +ℤ pos k ≡ in_year y (month_in e +ℤ pos k) =
    ap (λ (t : ℤ). t +ℤ pos k) (start-count e yearly y) ∙ summed (pos 12 *ℤ y) (month_in e) k in
    subst (λ (t : ℤ). IsInMonth (λ (u : ℤ). month_first u) t (months_later n k)) e2 (later-lies n k)
  where
    summed : (a b : ℤ) (k : ℕ) → (a +ℤ b) +ℤ pos k ≡ a +ℤ (b +ℤ pos k)
    summed a b k = omega (arith, signed_arith)

-- ---- starts on that day

pub date-starts : (date : MonthDay) (n : ℤ) → is_yearly (Date date) ≡ true
    → HoldsOnDay (on_month_day date.month date.day) (day_fields n) ↔ ((y : ℤ) × (n ≡ start_day (Date date) y))
date-starts date n yearly = (
  (λ h.
      let x = month-day-to date.month date.day n h in
      let is = (date_of-is n).1 in
      (year_of n, (rw (x.0, x.1) at is) ∙ none (day_number (year_of n) date.month date.day))),
  (λ h.
      let y : ℤ = h.0 in
      let e : n ≡ day_number y date.month date.day = h.1 ∙ sym (none (day_number y date.month date.day)) in
      let is = end-is (Date date) y yearly in
      let only = date_of-only n y date.month date.day (is.0, e) in
      month-day-from date.month date.day n (sym only.1, sym only.2)),
)
  where
    none : (a : ℤ) → a ≡ a -ℤ pos 0
    none a = omega (arith, signed_arith)

pub place-starts : (x : MonthPlace) (n : ℤ)
    → ((cond (end_month (Place x) == 0) 12 (end_month (Place x)) ≡ month_of n)
    × HasPlace (on_back x.place) x.place.place.weekday (on_number x.place) n)
    ↔ ((y : ℤ) × (n ≡ start_day (Place x) y))
place-starts x n =
    let p = x.place in
    let w : ℕ = p.place.weekday in
    let range = on-range p.is_back p.is_before p.place.number p.days p.in_range p.place.in_range.1 in
    let mi = month-in n in (
      (λ h.
          let y = year_with (year_of n) (month_of n) (end_month (Place x)) mi h.0 in
          let is = has-place (on_back p) w (on_number p) n p.place.in_range.0 h.1 in
          let same = y.1 ∙ sym (on-count (leads x) y.0 x.month x.month_in.0) in
          (y.0, is ∙ ap (λ (t : ℤ). place_at (on_back p) w (on_number p) t) same ∙ sym (start-is x y.0))),
      (λ h.
          let y : ℤ = h.0 in
          let u = on_month (leads x) (month_count y x.month) in
          let has = place-has (on_back p) w (on_number p) u p.place.in_range.0 range in
          let e : n ≡ place_at (on_back p) w (on_number p) u = h.1 ∙ start-is x y in
          let counted = ap (λ (z : ℤ). count z) h.1 ∙ start-count (Place x) refl y in (
            month_with (year_of n) y (month_of n) (end_month (Place x)) mi (fits x) counted,
            subst (λ (z : ℤ). HasPlace (on_back p) w (on_number p) z) (sym e) has.0,
          )),
    )
  where
    year_with : (v : ℤ) (m k : ℕ) → IsMonth m → cond (k == 0) 12 k ≡ m → (y : ℤ) × (month_count v m ≡ in_year y (pos k -ℤ pos 1))
    year_with v m k r e = elim (cases_eq k 0) [
      | inl none ↦ (v +ℤ pos 1, over v m k none (december k m none e))
      | inr some ↦ (v, within v m k (omega (arith, some)) (month k m some e))
    ]
      where
        over : (v : ℤ) (m k : ℕ) → k ≡ 0 → m ≡ 12 → month_count v m ≡ in_year (v +ℤ pos 1) (pos k -ℤ pos 1)
        over v m k none e = omega (arith, signed_arith)

        within : (v : ℤ) (m k : ℕ) → 1 ≤ k → m ≡ k → month_count v m ≡ in_year v (pos k -ℤ pos 1)
        within v m k some e = omega (arith, signed_arith)

        december : (k m : ℕ) → k ≡ 0 → cond (k == 0) 12 k ≡ m → m ≡ 12
        december k m none e = grind arith

        month : (k m : ℕ) → k ≢ 0 → cond (k == 0) 12 k ≡ m → m ≡ k
        month k m some e = grind arith

    month_with : (v y : ℤ) (m k : ℕ) → IsMonth m → k ≤ 12 → month_count v m ≡ in_year y (pos k -ℤ pos 1) → cond (k == 0) 12 k ≡ m
    month_with v y m k r few e = elim (cases_eq k 0) [
      | inl none ↦ december k m none (omega (arith, signed_arith, r, none, e))
      | inr some ↦ month k m some (omega (arith, signed_arith, r, few, some, e))
    ]
      where
        december : (k m : ℕ) → k ≡ 0 → m ≡ 12 → cond (k == 0) 12 k ≡ m
        december k m none e = grind arith

        month : (k m : ℕ) → k ≢ 0 → m ≡ k → cond (k == 0) 12 k ≡ m
        month k m some e = grind arith

    fits : (x : MonthPlace) → end_month (Place x) ≤ 12
    fits x = below (leads x) x.month x.month_in.1
      where
        below : (b : Bool) (m : ℕ) → m ≤ 12 → cond b (m - 1) m ≤ 12
        below true m le = omega (arith, le)
        below false m le = le

pub parts-start : (x : MonthPlace) (n : ℤ) (m k : ℕ) (back : Bool) (number : ℕ) → m ≡ cond (k == 0) 12 k → k ≡ end_month (Place x)
    → back ≡ on_back x.place → number ≡ on_number x.place
    → ((m ≡ month_of n) × HasPlace back x.place.place.weekday number n) ↔ ((y : ℤ) × (n ≡ start_day (Place x) y))
parts-start x n m k back number e f g h =
    let month : m ≡ cond (end_month (Place x) == 0) 12 (end_month (Place x)) = e ∙ ap (λ (i : ℕ). cond (i == 0) 12 i) f in
    let w : ℕ = x.place.place.weekday in
    let starts = place-starts x n in (
      (λ here. starts.0 (sym month ∙ here.0, with_place (on_back x.place) w (on_number x.place) back number n g h here.1)),
      (λ there.
          let at = starts.1 there in
          (month ∙ at.0, with_place back w number (on_back x.place) (on_number x.place) n (sym g) (sym h) at.1)),
    )
  where
    with_place : (b : Bool) (w k : ℕ) (c : Bool) (l : ℕ) (n : ℤ) → c ≡ b → l ≡ k → HasPlace c w l n → HasPlace b w k n
    with_place b w k c l n e f h = subst (λ (j : ℕ). HasPlace b w j n) f (subst (λ (d : Bool). HasPlace d w l n) e h)

-- so many days from each start on
pub days-from : (a : Type 0) (p : StartParts) (e : End) (c d : ℕ) (n : ℤ) → c ≡ d
    → ((m : ℤ) → HoldsOnDay p (day_fields m) ↔ ((y : ℤ) × (m ≡ start_day e y)))
    → (a ↔ ((k : ℕ) × (k < c) × HoldsOnDay p (day_fields (n -ℤ pos k))))
    → a ↔ ((y : ℤ) × (start_day e y ≤ℤ n) × (n <ℤ (start_day e y +ℤ pos d)))
days-from a p e c d n same on given =
    let all = subst (λ (i : ℕ). a ↔ ((k : ℕ) × (k < i) × HoldsOnDay p (day_fields (n -ℤ pos k)))) same given in (
      (λ h.
          let x = all.0 h in
          let k : ℕ = x.0 in
          let y = (on (n -ℤ pos k)).0 x.2 in
          let lies = reached n (start_day e y.0) k d y.1 x.1 in
          (y.0, lies.0, lies.1)),
      (λ h.
          let y : ℤ = h.0 in
          let k = back n (start_day e y) d h.1 h.2 in
          all.1 (k.0, k.1, (on (n -ℤ pos k.0)).1 (y, k.2))),
    )
  where
    reached : (n a : ℤ) (k d : ℕ) → n -ℤ pos k ≡ a → k < d → (a ≤ℤ n) × (n <ℤ (a +ℤ pos d))
    reached n a k d e lt = (omega (arith, signed_arith), omega (arith, signed_arith))

    back : (n a : ℤ) (d : ℕ) → a ≤ℤ n → n <ℤ (a +ℤ pos d) → (k : ℕ) × (k < d) × (n -ℤ pos k ≡ a)
    back n a d le lt =
        let part = one_part (n -ℤ a) in
        (unsigned_abs (n -ℤ a), omega (arith, signed_arith), omega (arith, signed_arith))

-- some months from each start on
pub months-from : (t : Tree) (p : StartParts) (c : Clock) (e : End) (j k : ℕ) → j ≡ k
    → t ≡ Single (clocked p c) (record no_duration { months = j })
    → ((m : ℤ) → HoldsOnDay p (day_fields m) ↔ ((y : ℤ) × (m ≡ start_day e y))) → (s : ℤ)
    → let n = moved_day (minutes_of c) s in
    InTree t s ↔ ((y : ℤ) × (start_day e y ≤ℤ n) × (n <ℤ months_later (start_day e y) k))
months-from t p c e j k same given on s =
    let is = subst (λ (i : ℕ). t ≡ Single (clocked p c) (record no_duration { months = i })) same given in
    let q = record no_duration { months = k } in
    let held = days-held p q c refl s in
    let n = moved_day (minutes_of c) s in
    let none : 12 * 0 + k ≡ k = omega arith in
    let far : (m : ℤ) → reach q m ≡ months_later m k = λ m. reach-months q m refl refl ∙ ap (λ (j : ℕ). months_later m j) none in
    rw is (
      (λ h.
          let x = held.0 h in
          let m : ℤ = x.0 in
          let y = (on m).0 x.1 in
          let until : n <ℤ months_later m k = subst (λ (z : ℤ). n <ℤ z) (far m) x.3 in
          (y.0, subst (λ (z : ℤ). z ≤ℤ n) y.1 x.2, subst (λ (z : ℤ). n <ℤ months_later z k) y.1 until)),
      (λ h.
          let y : ℤ = h.0 in
          let m = start_day e y in
          held.1 (m, (on m).1 (y, refl), h.1, subst (λ (z : ℤ). n <ℤ z) (sym (far m)) h.2)),
    )

-- ---- ranges

-- a range of one of the years
pub in-moving : (over : Bool) (first last : End) → is_yearly first ≡ true → is_yearly last ≡ true → (n : ℤ)
    → IsWithinOne (λ (y : ℤ). start_day first y) (λ (y : ℤ). start_day last (last_year over y)) (end_days first)
    (end_days last + 1) n
    ↔ IsInMoving over first last n
in-moving over first last f l n = (
  (λ h.
      let y : ℤ = h.0 in (
        y,
        end_day first y,
        end_day last (last_year over y),
        end-is first y f,
        end-is last (last_year over y) l,
        low n (end_day first y) (end_days first) h.1,
        high n (end_day last (last_year over y)) (end_days last) h.2,
      )),
  (λ h.
      let y : ℤ = h.0 in
      let a = end-only first y h.1 h.3 in
      let b = end-only last (last_year over y) h.2 h.4 in (
        y,
        from n h.1 (end_day first y) (end_days first) a h.5,
        until n h.2 (end_day last (last_year over y)) (end_days last) b h.6,
      )),
)
  where
    low : (n a : ℤ) (q : ℕ) → ((a -ℤ pos q) +ℤ pos q) ≤ℤ n → a ≤ℤ n
    low n a q le = omega (arith, signed_arith)

    high : (n b : ℤ) (q : ℕ) → n <ℤ ((b -ℤ pos q) +ℤ pos (q + 1)) → n ≤ℤ b
    high n b q lt = omega (arith, signed_arith)

    from : (n a c : ℤ) (q : ℕ) → a ≡ c → a ≤ℤ n → ((c -ℤ pos q) +ℤ pos q) ≤ℤ n
    from n a c q e le = omega (arith, signed_arith)

    until : (n b c : ℤ) (q : ℕ) → b ≡ c → n ≤ℤ b → n <ℤ ((c -ℤ pos q) +ℤ pos (q + 1))
    until n b c q e le = omega (arith, signed_arith)

-- the years of last days, by the years in which their ranges begin
some-year : (over : Bool) (p q : ℤ → Type 0) → ((y : ℤ) × p y × q y) → ((y : ℤ) × p (last_year over y) × q (last_year over y))
some-year true p q h =
    let same : h.0 ≡ (h.0 -ℤ pos 1) +ℤ pos 1 = omega (arith, signed_arith) in
    (h.0 -ℤ pos 1, subst p same h.1, subst q same h.2)
some-year false p q h = (h.0, h.1, h.2)

from-past : (over : Bool) (e : End) (k d : ℕ) (n : ℤ)
    → IsFrom e k d n
    ↔ IsPast (λ (y : ℤ). start_day e (last_year over y)) (λ (y : ℤ). months_later (start_day e (last_year over y)) k) d n
from-past over e k d n = (
  (λ h. (
    some-year over (λ (y : ℤ). start_day e y ≤ℤ n) (λ (y : ℤ). n <ℤ months_later (start_day e y) k) h.0,
    (λ there. h.1 (last_year over there.0, there.1, there.2)),
  )),
  (λ h. (
    (last_year over h.0.0, h.0.1, h.0.2),
    (λ there. h.1 (some-year over (λ (y : ℤ). start_day e y ≤ℤ n) (λ (y : ℤ). n <ℤ (start_day e y +ℤ pos d)) there)),
  )),
)

-- the month of a last day, by the year in which its range begins
abbrev later : Bool → ℕ
later over = cond over 12 0

last-month : (over : Bool) (f : ℤ → ℤ) (i : ℤ) (x : ℤ → ℤ) → EachYear f i x
    → EachYear f (i +ℤ pos (later over)) (λ (y : ℤ). x (last_year over y))
last-month true f i x each y =
    let same : in_year (y +ℤ pos 1) i ≡ in_year y (i +ℤ pos 12) = omega (arith, signed_arith) in
    subst (λ (t : ℤ). IsInMonth f t (x (y +ℤ pos 1))) same (each (y +ℤ pos 1))
last-month false f i x each y =
    let same : in_year y i ≡ in_year y (i +ℤ pos 0) = omega (arith, signed_arith) in
    subst (λ (t : ℤ). IsInMonth f t (x y)) same (each y)

days-few : (e : End) → end_days e ≤ 27
days-few (Date date) = omega arith
days-few (Place x) = few x.place.is_before x.place.days x.place.in_range.1
  where
    few : (before : Bool) (d : ℕ) → d ≤ 27 → days_on before d ≤ 27
    few true d le = omega arith
    few false d le = le

-- the months from that of the first end to that of the last
pub months-fit : (over : Bool) (first last : End) → IsMoving over first last
    → (end_month first ≤ end_month last + cond over 14 2) × (1 ≤ months_between over first last)
    × (months_between over first last ≤ 15)
months-fit over first last m =
    let xs = start-month first m.0 in
    let zs = last-month over (λ (t : ℤ). month_first t) (month_in last) (λ (y : ℤ). start_day last y) (start-month last m.1) in
    let i = month_in first in
    let j = month_in last +ℤ pos (later over) in
    let each = order-to over first last m.0 m.1 m.3 in
    let a = end_day first (pos 0) in
    let b = end_day last (last_year over (pos 0)) in
    let c = end_day first (pos 1) in
    let low : i <ℤ (j +ℤ pos 2) =
    by_lt_z i (j +ℤ pos 2) (λ lt. lt)
    (λ ge. absurd (crossed (λ (t : ℤ). month_first t) months-rise (in_year (pos 0) j +ℤ pos 2) (in_year (pos 0) i) b
    (start_day first (pos 0)) (zero j i ge)
    (soon (λ (t : ℤ). month_first t) months-rise (in_year (pos 0) j) (start_day last (last_year over (pos 0))) b
    (end_days last + 1) (one (end_days last) (days-few last)) (zs (pos 0)) (after b (end_days last)))
    (xs (pos 0)).0 (before a b (end_days first) (each (pos 0)).0))) in
    let high : j <ℤ (i +ℤ pos 14) =
    by_lt_z j (i +ℤ pos 14) (λ lt. lt)
    (λ ge. absurd (crossed (λ (t : ℤ). month_first t) months-rise (in_year (pos 1) i +ℤ pos 2) (in_year (pos 0) j) c
    (start_day last (last_year over (pos 0))) (year i j ge)
    (soon (λ (t : ℤ). month_first t) months-rise (in_year (pos 1) i) (start_day first (pos 1)) c (end_days first + 1)
    (one (end_days first) (days-few first)) (xs (pos 1)) (after c (end_days first)))
    (zs (pos 0)).0 (under b c (end_days last) (each (pos 0)).1))) in
    counted over (end_month first) (end_month last) low high
  where
    one : (q : ℕ) → q ≤ 27 → q + 1 ≤ 28
    one q le = omega (arith, le)

    after : (b : ℤ) (q : ℕ) → b <ℤ ((b -ℤ pos q) +ℤ pos (q + 1))
    after b q = omega (arith, signed_arith)

    before : (a b : ℤ) (q : ℕ) → a ≤ℤ b → (a -ℤ pos q) ≤ℤ b
    before a b q le = omega (arith, signed_arith)

    under : (b c : ℤ) (q : ℕ) → b <ℤ c → (b -ℤ pos q) ≤ℤ c
    under b c q lt = omega (arith, signed_arith)

    zero : (j i : ℤ) → (j +ℤ pos 2) ≤ℤ i → (in_year (pos 0) j +ℤ pos 2) ≤ℤ in_year (pos 0) i
    zero j i le = omega (arith, signed_arith)

    year : (i j : ℤ) → (i +ℤ pos 14) ≤ℤ j → (in_year (pos 1) i +ℤ pos 2) ≤ℤ in_year (pos 0) j
    year i j le = omega (arith, signed_arith)

    counted : (over : Bool) (k l : ℕ) → (pos k -ℤ pos 1) <ℤ (((pos l -ℤ pos 1) +ℤ pos (later over)) +ℤ pos 2)
        → ((pos l -ℤ pos 1) +ℤ pos (later over)) <ℤ ((pos k -ℤ pos 1) +ℤ pos 14)
        → (k ≤ l + cond over 14 2) × (1 ≤ l + cond over 14 2 - k) × (l + cond over 14 2 - k ≤ 15)
    counted true k l low high = (
      omega (arith, signed_arith, low),
      omega (arith, signed_arith, low),
      omega (arith, signed_arith, high),
    )
    counted false k l low high = (
      omega (arith, signed_arith, low),
      omega (arith, signed_arith, low),
      omega (arith, signed_arith, high),
    )

pub months-less : (over : Bool) (first last : End) → IsMoving over first last → (a b c : ℕ) → a ≡ end_month first
    → b ≡ end_month last → c ≡ cond over 14 2 → a ≤ b + c
months-less over first last m a b c e f g = rw (e, f, g) (months-fit over first last m).0

pub months-range : (over : Bool) (first last : End) → IsMoving over first last → (k : ℕ) → k ≡ months_between over first last
    → (1 ≤ k) × (k ≤ 15)
months-range over first last m k e = let fit = months-fit over first last m in rw e (fit.1, fit.2)

pub less-value : (over : Bool) (first last : End) (a b c k : ℕ) → a ≡ end_month first → b ≡ end_month last → c ≡ cond over 14 2
    → k ≡ b + c - a → k ≡ months_between over first last
less-value over first last a b c k e f g is = is ∙ (rw (e, f, g) refl)

-- and of the day some months after a last day
after-last : (over : Bool) (e : End) → is_yearly e ≡ true → (k : ℕ)
    → EachYear (λ (t : ℤ). month_first t) ((month_in e +ℤ pos (later over)) +ℤ pos k)
    (λ (y : ℤ). months_later (start_day e (last_year over y)) k)
after-last over e yearly k y =
    let each = last-month over (λ (t : ℤ). month_first t) (month_in e +ℤ pos k) (λ (v : ℤ). months_later (start_day e v) k)
    (later-month e yearly k) y in
    subst (λ (i : ℤ). IsInMonth (λ (u : ℤ). month_first u) (in_year y i) (months_later (start_day e (last_year over y)) k))
    (turned (month_in e) k (later over)) each
  where
    turned : (a : ℤ) (k l : ℕ) → (a +ℤ pos k) +ℤ pos l ≡ (a +ℤ pos l) +ℤ pos k
    turned a k l = omega (arith, signed_arith)

module _ (over : Bool) (first last : End) (m : IsMoving over first last) where
  xs : EachYear (λ (t : ℤ). month_first t) (month_in first) (λ (y : ℤ). start_day first y)
  xs = start-month first m.0

  zs : EachYear (λ (t : ℤ). month_first t) (month_in last +ℤ pos (later over)) (λ (y : ℤ). start_day last (last_year over y))
  zs = last-month over (λ (t : ℤ). month_first t) (month_in last) (λ (y : ℤ). start_day last y) (start-month last m.1)

  months-same : (month_in last +ℤ pos (later over)) +ℤ pos 2 ≡ month_in first +ℤ pos (months_between over first last)
  months-same = counted over (end_month first) (end_month last) (months-fit over first last m).0
    where
      counted : (over : Bool) (k l : ℕ) → k ≤ l + cond over 14 2
          → ((pos l -ℤ pos 1) +ℤ pos (later over)) +ℤ pos 2 ≡ (pos k -ℤ pos 1) +ℤ pos (l + cond over 14 2 - k)
      counted true k l le = omega (arith, signed_arith)
      counted false k l le = omega (arith, signed_arith)

  small : end_days first ≤ 28
  small = let few = days-few first in omega (arith, few)

  short : end_days last + 1 ≤ 28
  short = let few = days-few last in omega (arith, few)

  -- up to eight months, from the first day on without what comes after the last one
  pub straight : months_between over first last ≤ 10 → (n : ℤ)
      → (IsFrom first (months_between over first last) (end_days first) n × (IsFrom last 3 (end_days last + 1) n → ⊥))
      ↔ IsInMoving over first last n
  straight few n =
      let k : ℕ = months_between over first last in
      let rxs = later-month first m.0 k in
      let rzs = after-last over last m.1 3 in
      let past = from-past over last 3 (end_days last + 1) n in
      let inside = in-moving over first last m.0 m.1 n in (
        (λ h. inside.0 (range-to (λ (t : ℤ). month_first t) months-rise (λ (y : ℤ). start_day first y)
            (λ (y : ℤ). start_day last (last_year over y)) (λ (y : ℤ). months_later (start_day first y) k)
            (λ (y : ℤ). months_later (start_day last (last_year over y)) 3) (month_in first) (month_in last +ℤ pos (later over)) k
            (end_days first) (end_days last + 1) few small short months-same xs zs rxs rzs n h.0 (λ p. h.1 (past.1 p)))),
        (λ h.
            let r = range-from (λ (t : ℤ). month_first t) months-rise (λ (y : ℤ). start_day first y)
            (λ (y : ℤ). start_day last (last_year over y)) (λ (y : ℤ). months_later (start_day first y) k)
            (λ (y : ℤ). months_later (start_day last (last_year over y)) 3) (month_in first) (month_in last +ℤ pos (later over)) k
            (end_days first) (end_days last + 1) few small short months-same xs zs rxs rzs n (inside.1 h) in
            (r.0, (λ p. r.1 (past.0 p)))),
      )

  -- the days are in order, as those of the ends are
  ordered : (y : ℤ)
      → ((start_day first y +ℤ pos (end_days first)) ≤ℤ (start_day last (last_year over y) +ℤ pos (end_days last + 1)))
      × ((start_day last (last_year over y) +ℤ pos (end_days last + 1)) ≤ℤ (start_day first (y +ℤ pos 1) +ℤ pos (end_days first)))
  ordered y =
      let each = order-to over first last m.0 m.1 m.3 y in
      placed (end_day first y) (end_day last (last_year over y)) (end_day first (y +ℤ pos 1)) (end_days first) (end_days last)
      each.0 each.1
    where
      placed : (a b c : ℤ) (p q : ℕ) → a ≤ℤ b → b <ℤ c
          → (((a -ℤ pos p) +ℤ pos p) ≤ℤ ((b -ℤ pos q) +ℤ pos (q + 1)))
          × (((b -ℤ pos q) +ℤ pos (q + 1)) ≤ℤ ((c -ℤ pos p) +ℤ pos p))
      placed a b c p q le lt = (omega (arith, signed_arith), omega (arith, signed_arith))

  -- each day is in a range or between two
  in-or : (n : ℤ)
      → IsWithinOne (λ (y : ℤ). start_day first y) (λ (y : ℤ). start_day last (last_year over y)) (end_days first)
      (end_days last + 1) n
      ⊎ IsWithinOne (λ (y : ℤ). start_day last (last_year over y)) (λ (y : ℤ). start_day first (y +ℤ pos 1)) (end_days last + 1)
      (end_days first) n
  in-or n =
      rest-or (λ (t : ℤ). month_first t) months-rise (λ (y : ℤ). start_day first y) (λ (y : ℤ). start_day last (last_year over y))
      (month_in first) (month_in last +ℤ pos (later over)) (end_days first) (end_days last + 1) small short xs zs ordered
      (count n) n (lies-in n)

  not-both : (n : ℤ)
      → IsWithinOne (λ (y : ℤ). start_day first y) (λ (y : ℤ). start_day last (last_year over y)) (end_days first)
      (end_days last + 1) n
      → IsWithinOne (λ (y : ℤ). start_day last (last_year over y)) (λ (y : ℤ). start_day first (y +ℤ pos 1)) (end_days last + 1)
      (end_days first) n → ⊥
  not-both n =
      rest-from (λ (t : ℤ). month_first t) months-rise (λ (y : ℤ). start_day first y)
      (λ (y : ℤ). start_day last (last_year over y)) (month_in first) (month_in last +ℤ pos (later over)) (end_days first)
      (end_days last + 1) small short xs zs ordered n

  -- a day that is not out of the ranges is in one
  pub is-in : (n : ℤ) → ((IsInMoving over first last n → ⊥) → ⊥) → IsInMoving over first last n
  is-in n h =
      let inside = in-moving over first last m.0 m.1 n in
      elim (in-or n) [ inl x ↦ inside.0 x | inr x ↦ absurd (h (λ y. not-both n (inside.1 y) x)) ]

  -- from nine months on, what is after a last day without what is from the next first day on is out of the ranges
  pub rest : 11 ≤ months_between over first last → (n : ℤ)
      → (IsFrom last (16 - months_between over first last) (end_days last + 1) n × (IsFrom first 3 (end_days first) n → ⊥))
      ↔ (IsInMoving over first last n → ⊥)
  rest many n =
      let k : ℕ = 16 - months_between over first last in
      let rxs = after-last over last m.1 k in
      let nexts = last-month true (λ (t : ℤ). month_first t) (month_in first) (λ (y : ℤ). start_day first y) xs in
      let rzs = after-last true first m.0 3 in
      let past = from-past over last k (end_days last + 1) n in
      let from = from-past true first 3 (end_days first) n in
      let inside = in-moving over first last m.0 m.1 n in
      let fit = months-fit over first last m in
      let few : k ≤ 10 = omega (arith, many) in
      let months : (month_in first +ℤ pos 12) +ℤ pos 2 ≡ (month_in last +ℤ pos (later over)) +ℤ pos k =
      turned (month_in first) (month_in last +ℤ pos (later over)) (months_between over first last) fit.2 months-same in (
        (λ h there. not-both n (inside.1 there) (range-to (λ (t : ℤ). month_first t) months-rise
            (λ (y : ℤ). start_day last (last_year over y)) (λ (y : ℤ). start_day first (y +ℤ pos 1))
            (λ (y : ℤ). months_later (start_day last (last_year over y)) k)
            (λ (y : ℤ). months_later (start_day first (y +ℤ pos 1)) 3) (month_in last +ℤ pos (later over))
            (month_in first +ℤ pos 12) k (end_days last + 1) (end_days first) few short small months zs nexts
            rxs rzs n (past.0 h.0) (λ p. h.1 (from.1 p)))),
        (λ none. elim (in-or n) [
          | inl x ↦ absurd (none (inside.0 x))
          | inr x ↦
              let r = range-from (λ (t : ℤ). month_first t) months-rise (λ (y : ℤ). start_day last (last_year over y))
              (λ (y : ℤ). start_day first (y +ℤ pos 1)) (λ (y : ℤ). months_later (start_day last (last_year over y)) k)
              (λ (y : ℤ). months_later (start_day first (y +ℤ pos 1)) 3) (month_in last +ℤ pos (later over))
              (month_in first +ℤ pos 12) k (end_days last + 1) (end_days first) few short small months zs nexts rxs rzs n x in
              (past.1 r.0, (λ p. r.1 (from.0 p)))
        ]),
      )
    where
      turned : (i j : ℤ) (k : ℕ) → k ≤ 15 → j +ℤ pos 2 ≡ i +ℤ pos k → (i +ℤ pos 12) +ℤ pos 2 ≡ j +ℤ pos (16 - k)
      turned i j k le e = omega (arith, signed_arith)

-- ---- expressions

-- what is in one and not in the other
minus-of : (a b e p q : Type 0) → (a ↔ p) → (b ↔ q) → (e ↔ (a × (b → ⊥))) → e ↔ (p × (q → ⊥))
minus-of a b e p q f g both = (
  (λ h. let x = both.0 h in (f.0 x.0, (λ y. x.1 (g.1 y)))),
  (λ h. both.1 (f.1 h.0, (λ y. h.1 (g.0 y)))),
)

pub moved-days : (a b e : Type 0) (p : StartParts) (x : MovedPlace) (q : ℕ) (n : ℤ) → q ≡ days_on x.is_before x.days → q ≤ 27
    → ((m : ℤ) → HoldsOnDay p (day_fields m) ↔ HasPlace (on_back x) x.place.weekday (on_number x) m)
    → (a ↔ ((k : ℕ) × (k < q + 1) × HoldsOnDay p (day_fields (n -ℤ pos k))))
    → (b ↔ ((k : ℕ) × (k < q) × HoldsOnDay p (day_fields (n -ℤ pos k))))
    → (e ↔ (a × (b → ⊥))) → e ↔ IsMovedFrom x n
moved-days a b e p x q n is few on all less both =
    let w : ℕ = x.place.weekday in
    let alone = last-alone a b e (on_back x) w (on_number x) q n few
    ((λ h. let y = all.0 h in (y.0, y.1, (on (n -ℤ pos y.0)).0 y.2)), (λ h. all.1 (h.0, h.1, (on (n -ℤ pos h.0)).1 h.2)))
    ((λ h. let y = less.0 h in (y.0, y.1, (on (n -ℤ pos y.0)).0 y.2)), (λ h. less.1 (h.0, h.1, (on (n -ℤ pos h.0)).1 h.2)))
    both in
    let moved = moved-on x n in (
      (λ h. moved.0 (subst (λ (k : ℕ). HasPlace (on_back x) w (on_number x) (n -ℤ pos k)) is (alone.0 h))),
      (λ h. alone.1 (subst (λ (k : ℕ). HasPlace (on_back x) w (on_number x) (n -ℤ pos k)) (sym is) (moved.1 h))),
    )

pub moved-day : (a : Type 0) (p : StartParts) (x : MovedPlace) (q : ℕ) (n : ℤ) → q ≡ days_on x.is_before x.days → q ≡ 0
    → ((m : ℤ) → HoldsOnDay p (day_fields m) ↔ HasPlace (on_back x) x.place.weekday (on_number x) m)
    → (a ↔ ((k : ℕ) × (k < q + 1) × HoldsOnDay p (day_fields (n -ℤ pos k))))
    → a ↔ IsMovedFrom x n
moved-day a p x q n is none on all =
    moved-days a ⊥ a p x q n is (omega (arith, none)) on all
    ((λ h. absurd h), (λ h. absurd (never h.0 q h.1 none))) ((λ h. (h, (λ y. y))), (λ h. h.0))
  where
    never : (k q : ℕ) → k < q → q ≡ 0 → ⊥
    never k q lt e = omega (arith, lt, e)

pub from-days : (a b e : Type 0) (x : End) (k d : ℕ) (n : ℤ)
    → (a ↔ ((y : ℤ) × (start_day x y ≤ℤ n) × (n <ℤ months_later (start_day x y) k)))
    → (b ↔ ((y : ℤ) × (start_day x y ≤ℤ n) × (n <ℤ (start_day x y +ℤ pos d))))
    → (e ↔ (a × (b → ⊥))) → e ↔ IsFrom x k d n
from-days a b e x k d n f g both = minus-of a b e _ _ f g both

pub from-first : (a : Type 0) (x : End) (k d : ℕ) (n : ℤ) → d ≡ 0
    → (a ↔ ((y : ℤ) × (start_day x y ≤ℤ n) × (n <ℤ months_later (start_day x y) k))) → a ↔ IsFrom x k d n
from-first a x k d n none f = (
  (λ h. (f.0 h, (λ y. never n (start_day x y.0) d none y.1 y.2))),
  (λ h. f.1 h.0),
)
  where
    never : (n a : ℤ) (d : ℕ) → d ≡ 0 → a ≤ℤ n → n <ℤ (a +ℤ pos d) → ⊥
    never n a d e le lt = omega (arith, signed_arith)

pub straight-days : (a b e : Type 0) (r : Moving) (k p q : ℕ) (n : ℤ) → p ≡ end_days r.first → q ≡ end_days r.last
    → k ≡ months_between r.is_over r.first r.last → k ≤ 10
    → (a ↔ IsFrom r.first k p n) → (b ↔ IsFrom r.last 3 (q + 1) n)
    → (e ↔ (a × (b → ⊥))) → e ↔ IsInMoving r.is_over r.first r.last n
straight-days a b e r k p q n first last is few given after both =
    let f = subst (λ (i : ℕ). a ↔ IsFrom r.first k i n) first given in
    let g = subst (λ (i : ℕ). b ↔ IsFrom r.last 3 (i + 1) n) last after in
    let fewer : months_between r.is_over r.first r.last ≤ 10 = omega (arith, is, few) in
    let held = straight r.is_over r.first r.last r.in_order fewer n in
    let all = minus-of a b e (IsFrom r.first k (end_days r.first) n) (IsFrom r.last 3 (end_days r.last + 1) n) f g both in
    let to : IsFrom r.first k (end_days r.first) n
    → IsFrom r.first (months_between r.is_over r.first r.last) (end_days r.first) n =
    subst (λ (j : ℕ). IsFrom r.first j (end_days r.first) n) is in
    let from : IsFrom r.first (months_between r.is_over r.first r.last) (end_days r.first) n
    → IsFrom r.first k (end_days r.first) n =
    subst (λ (j : ℕ). IsFrom r.first j (end_days r.first) n) (sym is) in (
      (λ h. let x = all.0 h in held.0 (to x.0, x.1)),
      (λ h. let x = held.1 h in all.1 (from x.0, x.1)),
    )

pub between-days : (a b e : Type 0) (r : Moving) (k p q : ℕ) (n : ℤ) → p ≡ end_days r.first → q ≡ end_days r.last
    → k ≡ months_between r.is_over r.first r.last → 11 ≤ k
    → (a ↔ IsFrom r.last (16 - k) (q + 1) n) → (b ↔ IsFrom r.first 3 p n)
    → (e ↔ (a × (b → ⊥))) → e ↔ (IsInMoving r.is_over r.first r.last n → ⊥)
between-days a b e r k p q n first last is many given before both =
    let f = subst (λ (i : ℕ). a ↔ IsFrom r.last (16 - k) (i + 1) n) last given in
    let g = subst (λ (i : ℕ). b ↔ IsFrom r.first 3 i n) first before in
    let more : 11 ≤ months_between r.is_over r.first r.last = omega (arith, is, many) in
    let held = rest r.is_over r.first r.last r.in_order more n in
    let all = minus-of a b e (IsFrom r.last (16 - k) (end_days r.last + 1) n) (IsFrom r.first 3 (end_days r.first) n) f g both in
    let to : IsFrom r.last (16 - k) (end_days r.last + 1) n
    → IsFrom r.last (16 - months_between r.is_over r.first r.last) (end_days r.last + 1) n =
    subst (λ (j : ℕ). IsFrom r.last (16 - j) (end_days r.last + 1) n) is in
    let from : IsFrom r.last (16 - months_between r.is_over r.first r.last) (end_days r.last + 1) n
    → IsFrom r.last (16 - k) (end_days r.last + 1) n =
    subst (λ (j : ℕ). IsFrom r.last (16 - j) (end_days r.last + 1) n) (sym is) in (
      (λ h. let x = all.0 h in held.0 (to x.0, x.1)),
      (λ h. let x = held.1 h in all.1 (from x.0, x.1)),
    )

pub rest-days : (a b e : Type 0) (r : Moving) (n : ℤ) → (a ↔ HoldsOnDay no_parts (day_fields n))
    → (b ↔ (IsInMoving r.is_over r.first r.last n → ⊥)) → (e ↔ (a × (b → ⊥))) → e ↔ IsInMoving r.is_over r.first r.last n
rest-days a b e r n f g both = (
  (λ h. is-in r.is_over r.first r.last r.in_order n (λ out. (both.0 h).1 (g.1 out))),
  (λ h. both.1 (
    f.1 (record { year = tt; month = tt; week = tt; day = tt; nth = tt; nth_back = tt; weekdays = inl refl }),
    (λ y. g.0 y h),
  )),
)
