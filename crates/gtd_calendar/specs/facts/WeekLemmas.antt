-- Each day is in one week, and in one year.
use Rattle.std.proofs.Common.{◌≡◌, ℕ, ◌<◌, refl, arith, ℤ, pos, ◌+ℤ◌, ◌≤ℤ◌}
use Rattle.std.proofs.lemmas.Int.{by_lt_z}
use Rattle.jiff_core.proofs.SignedLemmas.{signed_arith}
use Rattle.gtd_calendar.specs.facts.YearLemmas.{first_day-later}
use Rattle.gtd_calendar.specs.facts.DateLemmas.{place_in_year-is}
use Rattle.gtd_calendar.specs.Calendar.{year_length, first_day, thursday_of}
use Rattle.gtd_calendar.specs.ComputedDates.{year_of, place_in_year, week_of, week_year_of}
use Rattle.gtd_calendar.specs.Calendar.{IsWeekOf}

-- a day has one year, and one place in it
pub year-only : (n y : ℤ) (k : ℕ) → k < year_length y → n ≡ first_day y +ℤ pos k → (y ≡ year_of n)
    × (k ≡ place_in_year n)
year-only n y k low e =
    let here = place_in_year-is n in
    let same : y ≡ year_of n = by_lt_z y (year_of n)
    (λ lt. absurd (apart n (first_day y) (first_day (year_of n)) (year_length y) k (place_in_year n) low e
    (first_day-later y (year_of n) lt) here.0))
    (λ le. by_lt_z (year_of n) y
    (λ lt. absurd (apart n (first_day (year_of n)) (first_day y) (year_length (year_of n)) (place_in_year n) k here.1
    here.0 (first_day-later (year_of n) y lt) e))
    (λ ge. omega (arith, signed_arith))) in
    (same, place n (first_day (year_of n)) k (place_in_year n) (rw same at e) here.0)
  where
    apart : (n a b : ℤ) (long k l : ℕ) → k < long → n ≡ a +ℤ pos k → (a +ℤ pos long) ≤ℤ b → n ≡ b +ℤ pos l → ⊥
    apart n a b long k l low e far f = omega (arith, signed_arith)

    place : (n a : ℤ) (k l : ℕ) → n ≡ a +ℤ pos k → n ≡ a +ℤ pos l → k ≡ l
    place n a k l e f = omega (arith, signed_arith)

-- the week that is computed is the day's week
pub week_of-is : (n : ℤ) → IsWeekOf n (week_year_of n) (week_of n)
week_of-is n =
    let place = place_in_year-is (thursday_of n) in
    record { k = place_in_year (thursday_of n); in_year = place.1; thursday = place.0; number = refl }

-- and there is no other
pub week_of-only : (n y : ℤ) (w : ℕ) → IsWeekOf n y w → (y ≡ week_year_of n) × (w ≡ week_of n)
week_of-only n y w h =
    let only = year-only (thursday_of n) y h.k h.in_year h.thursday in
    (only.0, rw only.1 at h.number)
