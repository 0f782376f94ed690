-- A place of a weekday is one day of each month, and an end of a range one day of each year.
use Rattle.std.proofs.Common.{◌≡◌, ◌∙◌, sym, ap, refl, arith, ℕ, ◌+◌, ◌-◌, ◌*◌, ◌/◌, ◌%◌, ◌≤◌, ◌==◌, ◌&&◌, not, Bool, true, false}
use Rattle.std.proofs.Common.{cond, ℤ, pos, ◌+ℤ◌, ◌-ℤ◌, subst}
use Rattle.std.specs.Int.{int_rem_euclid}
use Rattle.gtd_calendar.specs.facts.Signed.{signed_arith, one_part}
use Rattle.gtd_calendar.specs.declared.day.DayFields.{DayFields}
use Rattle.gtd_calendar.specs.Calendar.{IsDate, IsDateOf, day_number, first_day, days_of_months, month_length, weekday_of}
use Rattle.gtd_calendar.specs.ComputedDates.{year_of, month_of, day_of_month}
use Rattle.gtd_calendar.specs.ComputedFields.{day_fields}
use Rattle.gtd_calendar.specs.facts.DateLemmas.{date_of-is, date_of-only, month_length_bounds}
use Rattle.gtd_calendar.specs.facts.FieldLemmas.{fields-are, fields-only}
use Rattle.gtd_hours.specs.Ranges.{IsMonth, IsMonthDay, IsWeekday}
use Rattle.gtd_hours.specs.Moving.{IsAtPlace, IsEndIn, day_from, is_yearly}
use Rattle.gtd_hours.specs.ComputedPlaces.{end_day, place_day}
use Rattle.gtd_hours.specs.declared.places.End.{End}
use Rattle.gtd_hours.specs.declared.places.End.TheVariants.{Date, Place}

-- ---- weekdays

pub weekday-in : (n : ℤ) → (1 ≤ weekday_of n) × (weekday_of n ≤ 7)
unfolding weekday_of
weekday-in n =
    let part = one_part (int_rem_euclid (n +ℤ pos 4) (pos 7)) in (omega arith, omega (arith, signed_arith))

pub weekday-after : (n : ℤ) (k : ℕ) → weekday_of (n +ℤ pos k) ≡ (weekday_of n - 1 + k) % 7 + 1
unfolding weekday_of
weekday-after n k =
    let part = one_part (int_rem_euclid (n +ℤ pos 4) (pos 7)) in
    let later = one_part (int_rem_euclid ((n +ℤ pos k) +ℤ pos 4) (pos 7)) in
    omega (arith, signed_arith)

-- so many days after a day of a month
days-on : (y : ℤ) (m d k : ℕ) → 1 ≤ d → day_number y m (d + k) ≡ day_number y m d +ℤ pos k
unfolding day_number
days-on y m d k low = moved (first_day y) (days_of_months y (m - 1)) d k low
  where
    moved : (a : ℤ) (p d k : ℕ) → 1 ≤ d → a +ℤ pos (p + (d + k - 1)) ≡ (a +ℤ pos (p + (d - 1))) +ℤ pos k
    moved a p d k low = omega (arith, signed_arith)

-- ---- places

-- the days from the first one to the place, or from the place to the last one
abbrev front : ℕ → ℕ → ℕ → ℕ
front at weekday number = (weekday + 7 - at) % 7 + 7 * (number - 1)

front-is : (at w k : ℕ) → IsWeekday at → IsWeekday w → (1 ≤ k) × (k ≤ 4)
    → ((at - 1 + front at w k) % 7 + 1 ≡ w) × (front at w k / 7 + 1 ≡ k) × (front at w k ≤ 27)
front-is at w k a b r = (omega (arith, a, b, r), omega (arith, a, b, r), omega (arith, a, b, r))

front-only : (at w k j : ℕ) → IsWeekday at → IsWeekday w → (at - 1 + j) % 7 + 1 ≡ w → j / 7 + 1 ≡ k → j ≡ front at w k
front-only at w k j a b e f = omega (arith, a, b, e, f)

back-is : (at w v k : ℕ) → IsWeekday at → IsWeekday w → IsWeekday v → (1 ≤ k) × (k ≤ 4)
    → at ≡ (v - 1 + front w at k) % 7 + 1 → (v ≡ w) × (front w at k / 7 + 1 ≡ k) × (front w at k ≤ 27)
back-is at w v k a b c r e = (omega (arith, a, b, c, r, e), omega (arith, a, b, c, r, e), omega (arith, a, b, c, r, e))

back-only : (at w k j : ℕ) → IsWeekday at → IsWeekday w → at ≡ (w - 1 + j) % 7 + 1 → j / 7 + 1 ≡ k → j ≡ front w at k
back-only at w k j a b e f = omega (arith, a, b, e, f)

-- the day that is computed has the place
pub place-there : (back : Bool) (w k : ℕ) (y : ℤ) (m : ℕ) → IsMonth m → IsWeekday w → (1 ≤ k) × (k ≤ 4)
    → let n = place_day back w k y m in (year_of n ≡ y) × (month_of n ≡ m) × (weekday_of n ≡ w)
    × (cond back (day_fields n).nth_back (day_fields n).nth ≡ k)
unfolding place_day
place-there false w k y m month weekday range =
    let first = day_number y m 1 in
    let j : ℕ = front (weekday_of first) w k in
    let is = front-is (weekday_of first) w k (weekday-in first) weekday range in
    let long = (month_length_bounds y m).1 in
    let dated : IsDateOf (first +ℤ pos j) y m (1 + j) =
    ((month, (omega arith, omega (arith, is.2, long))), sym (days-on y m 1 j (omega arith))) in
    let only = date_of-only (first +ℤ pos j) y m (1 + j) dated in
    (sym only.0, sym only.1, weekday-after first j ∙ is.0, omega (arith, only.2, is.1))
place-there true w k y m month weekday range =
    let long : ℕ = month_length y m in
    let last = day_number y m long in
    let j : ℕ = front w (weekday_of last) k in
    let n = last -ℤ pos j in
    let on : n +ℤ pos j ≡ last = omega (arith, signed_arith) in
    let is = back-is (weekday_of last) w (weekday_of n) k (weekday-in last) weekday (weekday-in n) range
    (rw on at (weekday-after n j)) in
    let low = (month_length_bounds y m).1 in
    let some : 1 ≤ long - j = omega (arith, is.2, low) in
    let dated : IsDateOf n y m (long - j) = (
      (month, (some, omega arith)),
      earlier last (day_number y m (long - j)) j
          (rw (over long j is.2 low) at (days-on y m (long - j) j some)),
    ) in
    let only = date_of-only n y m (long - j) dated in
    (sym only.0, sym only.1, is.0, rw (← only.0, ← only.1, ← only.2) (placed long j k is.1 is.2 low))
  where
    over : (long j : ℕ) → j ≤ 27 → 28 ≤ long → long - j + j ≡ long
    over long j a b = omega (arith, a, b)

    earlier : (n m : ℤ) (j : ℕ) → n ≡ m +ℤ pos j → n -ℤ pos j ≡ m
    earlier n m j e = omega (arith, signed_arith)

    placed : (long j k : ℕ) → j / 7 + 1 ≡ k → j ≤ 27 → 28 ≤ long → (long - (long - j)) / 7 + 1 ≡ k
    placed long j k e a b = omega (arith, e, a, b)

-- and no other day of its month
pub place-only : (back : Bool) (w k : ℕ) (n : ℤ) → IsWeekday w → weekday_of n ≡ w
    → cond back (day_fields n).nth_back (day_fields n).nth ≡ k → n ≡ place_day back w k (year_of n) (month_of n)
unfolding place_day
place-only false w k n weekday e place =
    let y = year_of n in
    let m : ℕ = month_of n in
    let d : ℕ = day_of_month n in
    let is = date_of-is n in
    let first = day_number y m 1 in
    let on : day_number y m (1 + (d - 1)) ≡ first +ℤ pos (d - 1) = days-on y m 1 (d - 1) (omega arith) in
    let same : 1 + (d - 1) ≡ d = omega (arith, is.0.1.0) in
    let here : n ≡ first +ℤ pos (d - 1) = is.1 ∙ (rw same at on) in
    let at : weekday_of n ≡ (weekday_of first - 1 + (d - 1)) % 7 + 1 = ap weekday_of here ∙ weekday-after first (d - 1) in
    let j = front-only (weekday_of first) w k (d - 1) (weekday-in first) weekday (sym at ∙ e) place in
    here ∙ ap (λ (x : ℕ). first +ℤ pos x) j
place-only true w k n weekday e place =
    let y = year_of n in
    let m : ℕ = month_of n in
    let d : ℕ = day_of_month n in
    let long : ℕ = month_length y m in
    let is = date_of-is n in
    let last = day_number y m long in
    let on : day_number y m (d + (long - d)) ≡ day_number y m d +ℤ pos (long - d) = days-on y m d (long - d) is.0.1.0 in
    let same : d + (long - d) ≡ long = omega (arith, is.0.1.1) in
    let there : last ≡ n +ℤ pos (long - d) = (rw same at on) ∙ ap (λ (z : ℤ). z +ℤ pos (long - d)) (sym is.1) in
    let at : weekday_of last ≡ (weekday_of n - 1 + (long - d)) % 7 + 1 = ap weekday_of there ∙ weekday-after n (long - d) in
    let j = back-only (weekday_of last) w k (long - d) (weekday-in last) weekday (rw e at at) place in
    earlier n last (long - d) there ∙ ap (λ (x : ℕ). last -ℤ pos x) j
  where
    earlier : (n m : ℤ) (j : ℕ) → m ≡ n +ℤ pos j → n ≡ m -ℤ pos j
    earlier n m j e = omega (arith, signed_arith)

-- ---- ends

-- each year has a date that is not 29 February
yearly-date : (m d : ℕ) → IsMonthDay m d → not ((m == 2) && (d == 29)) ≡ true → (y : ℤ) → IsDate y m d
yearly-date m d h ordinary y = (h.0, (h.1.0, fits m d y (month_length_bounds y m).1 h.1.1 ordinary))
  where
    fits : (m d : ℕ) (y : ℤ) → 28 ≤ month_length y m → d ≤ month_length (pos 2000) m → not ((m == 2) && (d == 29)) ≡ true
        → d ≤ month_length y m
    fits m d y low high ordinary = grind arith

pub end-is : (e : End) (y : ℤ) → is_yearly e ≡ true → IsEndIn e y (end_day e y)
end-is (Date date) y yearly = (yearly-date date.month date.day date.in_range yearly y, refl)
end-is (Place x) y yearly =
    let p = x.place in
    let n = place_day p.is_back p.place.weekday p.place.number y x.month in
    let is = place-there p.is_back p.place.weekday p.place.number y x.month x.month_in p.place.in_range.0
    (p.place.in_range.1, p.in_range.0) in
    (n, day_fields n, fields-are n, is.0, is.1, (is.2, is.3), refl)

pub end-only : (e : End) (y n : ℤ) → IsEndIn e y n → n ≡ end_day e y
end-only (Date date) y n h = h.1
end-only (Place x) y n h =
    let p = x.place in
    let m : ℤ = h.0 in
    let fields : h.1 ≡ day_fields m = fields-only m h.1 h.2 in
    let at = subst (λ (f : DayFields). IsAtPlace p f) fields h.5 in
    let year : year_of m ≡ y = sym (ap (λ (f : DayFields). f.year) fields) ∙ h.3 in
    let month : month_of m ≡ x.month = sym (ap (λ (f : DayFields). f.month) fields) ∙ h.4 in
    let is = place-only p.is_back p.place.weekday p.place.number m p.place.in_range.0 at.0 at.1 in
    h.6 ∙ ap (λ (z : ℤ). day_from p.is_before p.days z) (rw (year, month) at is)
