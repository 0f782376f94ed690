-- The order of the ends of ranges is seen in twenty-eight years: that of a year is that of its twin, and all repeat after four
-- hundred years.
use Rattle.std.proofs.Common.{◌≡◌, ◌↔◌, sym, arith, ℕ, zero, suc, ◌+◌, ◌-◌, ◌*◌, ◌/◌, ◌%◌, ◌<◌, ◌≤◌, Bool, true, false, refl}
use Rattle.std.proofs.Common.{ℤ, pos, ◌+ℤ◌, ◌-ℤ◌, ◌≤ℤ◌, ◌<ℤ◌, unsigned_abs}
use Rattle.std.proofs.lemmas.Int.{by_lt_z}
use Rattle.gtd_calendar.specs.facts.Signed.{signed_arith, one_part}
use Rattle.gtd_calendar.specs.Calendar.{day_number, days_of_months, first_day, month_length, weekday_of}
use Rattle.gtd_calendar.specs.facts.CycleLemmas.{is_leap_year-cycle}
use Rattle.gtd_calendar.specs.facts.YearLemmas.{first_day-cycle}
use Rattle.gtd_hours.specs.Moving.{day_from, last_year}
use Rattle.gtd_hours.specs.ComputedPlaces.{IsInOrder, end_day, place_day}
use Rattle.gtd_hours.specs.declared.places.End.{End}
use Rattle.gtd_hours.specs.declared.places.End.TheVariants.{Date, Place}
use Rattle.gtd_hours.proofs.YearTwins.{AreTwinPairs, AreTwins, twin}

month-twin : (y z : ℤ) (j m : ℕ) → AreTwins y z j → month_length y m ≡ month_length z m
month-twin y z j m t = rw t.0

months-twin : (y z : ℤ) (j n : ℕ) → AreTwins y z j → days_of_months y n ≡ days_of_months z n
unfolding days_of_months
months-twin y z j zero t = refl
months-twin y z j (suc n) t = rw (months-twin y z j n t, month-twin y z j (suc n) t)

day_number-twin : (y z : ℤ) (j m d : ℕ) → AreTwins y z j → day_number y m d ≡ day_number z m d +ℤ pos (7 * j)
unfolding day_number
day_number-twin y z j m d t =
    rw (t.1, months-twin y z j (m - 1) t) (moved (first_day z) (days_of_months z (m - 1) + (d - 1)))
  where
    moved : (a : ℤ) (k : ℕ) → (a +ℤ pos (7 * j)) +ℤ pos k ≡ (a +ℤ pos k) +ℤ pos (7 * j)
    moved a k = omega (arith, signed_arith)

weekday_of-weeks : (n : ℤ) (j : ℕ) → weekday_of (n +ℤ pos (7 * j)) ≡ weekday_of n
unfolding weekday_of
weekday_of-weeks n j = omega (arith, signed_arith)

place-twin : (back : Bool) (w k : ℕ) (y z : ℤ) (j m : ℕ) → AreTwins y z j
    → place_day back w k y m ≡ place_day back w k z m +ℤ pos (7 * j)
unfolding place_day
place-twin false w k y z j m t =
    rw (day_number-twin y z j m 1 t, weekday_of-weeks (day_number z m 1) j)
    (moved (day_number z m 1) ((w + 7 - weekday_of (day_number z m 1)) % 7 + 7 * (k - 1)))
  where
    moved : (a : ℤ) (i : ℕ) → (a +ℤ pos (7 * j)) +ℤ pos i ≡ (a +ℤ pos i) +ℤ pos (7 * j)
    moved a i = omega (arith, signed_arith)
place-twin true w k y z j m t =
    let last = day_number z m (month_length z m) in
    rw (month-twin y z j m t, day_number-twin y z j m (month_length z m) t, weekday_of-weeks last j)
    (moved last ((weekday_of last + 7 - w) % 7 + 7 * (k - 1)))
  where
    moved : (a : ℤ) (i : ℕ) → (a +ℤ pos (7 * j)) -ℤ pos i ≡ (a -ℤ pos i) +ℤ pos (7 * j)
    moved a i = omega (arith, signed_arith)

from-weeks : (before : Bool) (k : ℕ) (n : ℤ) (j : ℕ)
    → day_from before k (n +ℤ pos (7 * j)) ≡ day_from before k n +ℤ pos (7 * j)
from-weeks true k n j = omega (arith, signed_arith)
from-weeks false k n j = omega (arith, signed_arith)

end-twin : (e : End) (y z : ℤ) (j : ℕ) → AreTwins y z j → end_day e y ≡ end_day e z +ℤ pos (7 * j)
end-twin (Date date) y z j t = day_number-twin y z j date.month date.day t
end-twin (Place x) y z j t =
    let p = x.place in
    rw (place-twin p.is_back p.place.weekday p.place.number y z j x.month t)
    (from-weeks p.is_before p.days (place_day p.is_back p.place.weekday p.place.number z x.month) j)

last_year-twin : (over : Bool) (y z : ℤ) (j : ℕ) → AreTwinPairs y z j → AreTwins (last_year over y) (last_year over z) j
last_year-twin true y z j t = t.1
last_year-twin false y z j t = t.0

-- the order of a year is that of its twin
order-twin : (over : Bool) (first last : End) (y z : ℤ) (j : ℕ) → AreTwinPairs y z j
    → IsInOrder over first last y ↔ IsInOrder over first last z
order-twin over first last y z j t =
    rw (
      end-twin first y z j t.0,
      end-twin last (last_year over y) (last_year over z) j (last_year-twin over y z j t),
      end-twin first (y +ℤ pos 1) (z +ℤ pos 1) j t.1,
    )
    (moved (end_day first z) (end_day last (last_year over z)) (end_day first (z +ℤ pos 1)))
  where
    moved : (a b c : ℤ) → (((a +ℤ pos (7 * j)) ≤ℤ (b +ℤ pos (7 * j))) × ((b +ℤ pos (7 * j)) <ℤ (c +ℤ pos (7 * j))))
        ↔ ((a ≤ℤ b) × (b <ℤ c))
    moved a b c = (
      (λ h. (omega (arith, signed_arith, h.0), omega (arith, signed_arith, h.1))),
      (λ h. (omega (arith, signed_arith, h.0), omega (arith, signed_arith, h.1))),
    )

-- four hundred years are 20,871 weeks
cycle-twins : (y : ℤ) → AreTwinPairs (y +ℤ pos 400) y 20_871
cycle-twins y =
    let next : (y +ℤ pos 400) +ℤ pos 1 ≡ (y +ℤ pos 1) +ℤ pos 400 = omega (arith, signed_arith) in
    ((is_leap_year-cycle y, first_day-cycle y), rw next (is_leap_year-cycle (y +ℤ pos 1), first_day-cycle (y +ℤ pos 1)))

order-cycle : (over : Bool) (first last : End) (y : ℤ)
    → IsInOrder over first last (y +ℤ pos 400) ↔ IsInOrder over first last y
order-cycle over first last y = order-twin over first last (y +ℤ pos 400) y 20_871 (cycle-twins y)

order-later : (over : Bool) (first last : End) (y : ℤ) (j : ℕ) → IsInOrder over first last y
    → IsInOrder over first last (y +ℤ pos (400 * j))
order-later over first last y zero h =
    let same : y +ℤ pos (400 * 0) ≡ y = omega (arith, signed_arith) in rw same h
order-later over first last y (suc j) h =
    let next : y +ℤ pos (400 * suc j) ≡ (y +ℤ pos (400 * j)) +ℤ pos 400 = omega (arith, signed_arith) in
    rw next ((order-cycle over first last (y +ℤ pos (400 * j))).1 (order-later over first last y j h))

order-earlier : (over : Bool) (first last : End) (y : ℤ) (j : ℕ) → IsInOrder over first last (y +ℤ pos (400 * j))
    → IsInOrder over first last y
order-earlier over first last y zero h =
    let same : y +ℤ pos (400 * 0) ≡ y = omega (arith, signed_arith) in rw same at h
order-earlier over first last y (suc j) h =
    let next : y +ℤ pos (400 * suc j) ≡ (y +ℤ pos (400 * j)) +ℤ pos 400 = omega (arith, signed_arith) in
    order-earlier over first last y j ((order-cycle over first last (y +ℤ pos (400 * j))).0 (rw next at h))

-- what holds in twenty-eight years holds in four hundred
by-twin : (over : Bool) (first last : End) → ((k : ℕ) → 2000 ≤ k → k < 2028 → IsInOrder over first last (pos k)) → (k : ℕ)
    → 2000 ≤ k → k < 2400 → IsInOrder over first last (pos k)
by-twin over first last each k low high =
    let t = twin (k - 2000) (omega (arith, low, high)) in
    let same : 2000 + (k - 2000) ≡ k = omega (arith, low) in
    rw same at ((order-twin over first last (pos (2000 + (k - 2000))) (pos t.0) t.1 t.3).1 (each t.0 t.2.0 t.2.1))

-- and so it holds in all
pub all-years : (over : Bool) (first last : End) → ((k : ℕ) → 2000 ≤ k → k < 2028 → IsInOrder over first last (pos k)) → (y : ℤ)
    → IsInOrder over first last y
all-years over first last some y =
    let each = by-twin over first last some in
    by_lt_z y (pos 2000)
    (λ lt.
    let d = before y lt in
    order-earlier over first last y d.0 (rw (sym d.3) (each d.1 d.2.0 d.2.1)))
    (λ ge.
    let d = after y ge in
    rw d.3 (order-later over first last (pos d.1) d.0 (each d.1 d.2.0 d.2.1)))
  where
    before : (y : ℤ) → y <ℤ pos 2000 → (j : ℕ) × (k : ℕ) × ((2000 ≤ k) × (k < 2400)) × (pos k ≡ y +ℤ pos (400 * j))
    before y lt =
        let d : ℕ = unsigned_abs (pos 2000 -ℤ y) in
        let part = one_part (pos 2000 -ℤ y) in
        let j : ℕ = (d + 399) / 400 in
        let k : ℕ = 2000 + 400 * j - d in
        (j, k, (omega arith, omega arith), omega (arith, signed_arith))

    after : (y : ℤ) → pos 2000 ≤ℤ y → (j : ℕ) × (k : ℕ) × ((2000 ≤ k) × (k < 2400)) × (y ≡ pos k +ℤ pos (400 * j))
    after y ge =
        let d : ℕ = unsigned_abs (y -ℤ pos 2000) in
        let part = one_part (y -ℤ pos 2000) in
        let j : ℕ = d / 400 in
        let k : ℕ = 2000 + d % 400 in
        (j, k, (omega arith, omega arith), omega (arith, signed_arith))

-- The order is that of the year 2000: the last end comes before the first one in that year exactly if the range goes over the
-- end of the year.
pub goes-over : (over : Bool) (first last : End) → ((y : ℤ) → IsInOrder over first last y) → (early : Bool)
    → (early ≡ true) ↔ (end_day last (pos 2000) <ℤ end_day first (pos 2000)) → over ≡ early
goes-over true first last each true same = refl
goes-over false first last each false same = refl
goes-over true first last each false same =
    let next : pos 1999 +ℤ pos 1 ≡ pos 2000 = refl in
    let yes = same.1 (rw next at (each (pos 1999)).1) in cc
goes-over false first last each true same =
    let lt = same.0 refl in absurd (apart (end_day first (pos 2000)) (end_day last (pos 2000)) (each (pos 2000)).0 lt)
  where
    apart : (a b : ℤ) → a ≤ℤ b → b <ℤ a → ⊥
    apart a b p q = omega (arith, signed_arith, p, q)
