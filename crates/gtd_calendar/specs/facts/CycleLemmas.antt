-- Four hundred years are 146,097 days, which is a whole number of weeks, and the calendar repeats after them.
use Rattle.std.proofs.Common.{◌≡◌, ℕ, zero, suc, ◌+◌, ◌-◌, ◌*◌, refl, sym, ap, ◌∙◌, arith, ℤ, pos, ◌+ℤ◌, ◌*ℤ◌}
use Rattle.std.proofs.lemmas.Bool.Decides.{nat_tests}
use Rattle.jiff_core.proofs.SignedLemmas.{signed_arith, one_part}
use Rattle.gtd_core.specs.declared.duration.DurationParts.{DurationParts}
use Rattle.gtd_core.specs.Ranges.{clock_seconds}
use Rattle.gtd_calendar.specs.Calendar.{is_leap_year, year_length, IsWeekOf, month_length, days_of_months, first_day}
use Rattle.gtd_calendar.specs.Calendar.{day_number, IsDateOf, weekday_of, thursday_of}
use Rattle.gtd_calendar.specs.ComputedDates.{year_of, month_of, day_of_month, place_in_year, week_of, week_year_of}
use Rattle.gtd_core.specs.Seconds.{day_of_second}
use Rattle.gtd_calendar.specs.facts.YearLemmas.{first_day-cycle}
use Rattle.gtd_calendar.specs.facts.DateLemmas.{date_of-is, date_of-only, place_in_year-is}
use Rattle.gtd_calendar.specs.facts.MonthLemmas.{counted-is, counted-parts}
use Rattle.gtd_calendar.specs.facts.ClockLemmas.{second-parts, second-only}
use Rattle.gtd_calendar.specs.Clock.{second_of_day}
use Rattle.gtd_calendar.specs.ComputedEnds.{month_count, counted_year, counted_month, day_in_month, months_later, stop}

pub is_leap_year-cycle : (y : ℤ) → is_leap_year (y +ℤ pos 400) ≡ is_leap_year y
is_leap_year-cycle y =
    let part = one_part y in
    let whole = one_part (y +ℤ pos 400) in
    grind (arith, nat_tests, signed_arith)

pub month_length-cycle : (y : ℤ) (m : ℕ) → month_length (y +ℤ pos 400) m ≡ month_length y m
month_length-cycle y m = rw (is_leap_year-cycle y)

days_of_months-cycle : (y : ℤ) (n : ℕ) → days_of_months (y +ℤ pos 400) n ≡ days_of_months y n
unfolding days_of_months
days_of_months-cycle y zero = refl
days_of_months-cycle y (suc n) = rw (days_of_months-cycle y n, month_length-cycle y (suc n))

pub day_number-cycle : (y : ℤ) (m d : ℕ) → day_number (y +ℤ pos 400) m d ≡ day_number y m d +ℤ pos 146_097
unfolding day_number
day_number-cycle y m d =
    rw (first_day-cycle y, days_of_months-cycle y (m - 1)) (moved (first_day y) (days_of_months y (m - 1) + (d - 1)))
  where
    moved : (a : ℤ) (k : ℕ) → (a +ℤ pos 146_097) +ℤ pos k ≡ (a +ℤ pos k) +ℤ pos 146_097
    moved a k = omega (arith, signed_arith)

pub date-cycle : (n y : ℤ) (m d : ℕ) → IsDateOf n y m d → IsDateOf (n +ℤ pos 146_097) (y +ℤ pos 400) m d
date-cycle n y m d h = (
  (h.0.0, (h.0.1.0, rw (month_length-cycle y m) h.0.1.1)),
  ap (λ (z : ℤ). z +ℤ pos 146_097) h.1
      ∙ sym (day_number-cycle y m d),
)

-- the same date, four hundred years later
pub date_of-cycle : (n : ℤ) → (year_of (n +ℤ pos 146_097) ≡ year_of n +ℤ pos 400)
    × (month_of (n +ℤ pos 146_097) ≡ month_of n) × (day_of_month (n +ℤ pos 146_097) ≡ day_of_month n)
date_of-cycle n =
    let is = date_of-is n in
    let on = date_of-only (n +ℤ pos 146_097) (year_of n +ℤ pos 400) (month_of n) (day_of_month n)
    (date-cycle n (year_of n) (month_of n) (day_of_month n) is) in
    (sym on.0, sym on.1, sym on.2)

pub weekday_of-cycle : (n : ℤ) → weekday_of (n +ℤ pos 146_097) ≡ weekday_of n
unfolding weekday_of
weekday_of-cycle n = omega (arith, signed_arith)

thursday_of-cycle : (n : ℤ) → thursday_of (n +ℤ pos 146_097) ≡ thursday_of n +ℤ pos 146_097
unfolding thursday_of
thursday_of-cycle n = omega (arith, signed_arith)

place_in_year-cycle : (n : ℤ) → place_in_year (n +ℤ pos 146_097) ≡ place_in_year n
place_in_year-cycle n =
    let year = (date_of-cycle n).0 in
    let here = place_in_year-is n in
    let there = rw (year, first_day-cycle (year_of n)) at (place_in_year-is (n +ℤ pos 146_097)).0 in
    same n (first_day (year_of n)) (place_in_year n) (place_in_year (n +ℤ pos 146_097)) here.0 there
  where
    same : (n a : ℤ) (k l : ℕ) → n ≡ a +ℤ pos k → n +ℤ pos 146_097 ≡ (a +ℤ pos 146_097) +ℤ pos l → l ≡ k
    same n a k l e f = omega (arith, signed_arith)

pub week_of-cycle : (n : ℤ) → (week_of (n +ℤ pos 146_097) ≡ week_of n)
    × (week_year_of (n +ℤ pos 146_097) ≡ week_year_of n +ℤ pos 400)
week_of-cycle n = (
  rw (thursday_of-cycle n, place_in_year-cycle (thursday_of n)),
  rw (thursday_of-cycle n)
      (date_of-cycle (thursday_of n)).0,
)

year_length-cycle : (y : ℤ) → year_length (y +ℤ pos 400) ≡ year_length y
year_length-cycle y = rw (is_leap_year-cycle y) refl

-- the same week, four hundred years later
pub week-cycle : (n y : ℤ) (w : ℕ) → IsWeekOf n y w → IsWeekOf (n +ℤ pos 146_097) (y +ℤ pos 400) w
week-cycle n y w h =
    record {
      k = h.k;
      in_year = rw (year_length-cycle y) h.in_year;
      thursday = rw (thursday_of-cycle n, first_day-cycle y) (moved (thursday_of n) (first_day y) h.k h.thursday);
      number = h.number;
    }
  where
    moved : (n a : ℤ) (k : ℕ) → n ≡ a +ℤ pos k → n +ℤ pos 146_097 ≡ (a +ℤ pos 146_097) +ℤ pos k
    moved n a k e = omega (arith, signed_arith)

pub day_of_second-cycle : (s : ℤ) → (day_of_second (s +ℤ pos 12_622_780_800) ≡ day_of_second s +ℤ pos 146_097)
    × (second_of_day (s +ℤ pos 12_622_780_800) ≡ second_of_day s)
day_of_second-cycle s =
    let parts = second-parts s in
    second-only (s +ℤ pos 12_622_780_800) (day_of_second s +ℤ pos 146_097) (second_of_day s) parts.1
    (moved s (day_of_second s) (second_of_day s) parts.0)
  where
    moved : (s n : ℤ) (k : ℕ) → s ≡ pos 86400 *ℤ n +ℤ pos k → s +ℤ pos 12_622_780_800 ≡ pos 86400 *ℤ (n +ℤ pos 146_097)
        +ℤ pos k
    moved s n k e = omega (arith, signed_arith)

pub months_later-cycle : (n : ℤ) (k : ℕ) → months_later (n +ℤ pos 146_097) k ≡ months_later n k +ℤ pos 146_097
unfolding months_later day_in_month
months_later-cycle n k =
    let date = date_of-cycle n in
    let t = month_count (year_of n) (month_of n) +ℤ pos k in
    let parts = counted-parts t in
    let on = counted-is (month_count (year_of n +ℤ pos 400) (month_of n) +ℤ pos k) (counted_year t +ℤ pos 400)
    (counted_month t - 1) (omega arith) (moved (year_of n) (counted_year t) (month_of n - 1) (counted_month t - 1) k
    parts.0) in
    let same : counted_month t - 1 + 1 ≡ counted_month t = omega arith in
    rw (date.0, date.1, date.2, on.0, on.1, same, month_length-cycle (counted_year t) (counted_month t))
    (day_number-cycle (counted_year t) (counted_month t) _)
  where
    moved : (y z : ℤ) (m l k : ℕ) → (pos 12 *ℤ y +ℤ pos m) +ℤ pos k ≡ pos 12 *ℤ z +ℤ pos l
        → (pos 12 *ℤ (y +ℤ pos 400) +ℤ pos m) +ℤ pos k ≡ pos 12 *ℤ (z +ℤ pos 400) +ℤ pos l
    moved y z m l k e = omega (arith, signed_arith)

-- a stretch that begins four hundred years later ends four hundred years later
pub stop-cycle : (p : DurationParts) (b : ℤ) → stop p (b +ℤ pos 12_622_780_800) ≡ stop p b +ℤ pos 12_622_780_800
unfolding stop
stop-cycle p b =
    let at = day_of_second-cycle b in
    rw (at.0, at.1, months_later-cycle (day_of_second b) (12 * p.years + p.months))
    (moved (months_later (day_of_second b) (12 * p.years + p.months)) (7 * p.weeks + p.days)
    (second_of_day b + clock_seconds p))
  where
    moved : (m : ℤ) (k l : ℕ) → pos 86400 *ℤ ((m +ℤ pos 146_097) +ℤ pos k) +ℤ pos l
        ≡ (pos 86400 *ℤ (m +ℤ pos k) +ℤ pos l) +ℤ pos 12_622_780_800
    moved m k l = omega (arith, signed_arith)
