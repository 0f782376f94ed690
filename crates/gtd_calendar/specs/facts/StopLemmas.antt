-- Each stretch has one end.
use Rattle.std.proofs.Common.{◌≡◌, ℕ, ◌+◌, ◌-◌, ◌*◌, ◌/◌, ◌%◌, ◌≤◌, min, refl, sym, ap, ◌∙◌, arith, ℤ, pos, ◌+ℤ◌, ◌*ℤ◌}
use Rattle.jiff_core.proofs.SignedLemmas.{signed_arith}
use Rattle.gtd_core.specs.declared.duration.DurationParts.{DurationParts}
use Rattle.gtd_calendar.specs.Calendar.{month_length, IsDateOf, day_number}
use Rattle.gtd_calendar.specs.ComputedDates.{year_of, month_of, day_of_month}
use Rattle.gtd_core.specs.Seconds.{day_of_second}
use Rattle.gtd_calendar.specs.facts.DateLemmas.{date_of-is, date_of-only, month_length_bounds}
use Rattle.gtd_calendar.specs.facts.MonthLemmas.{counted-is, counted-parts}
use Rattle.gtd_calendar.specs.ComputedEnds.{month_count, counted_year, counted_month, day_in_month, months_later, stop}
use Rattle.gtd_calendar.specs.Clock.{IsMonthsLater, IsStop, second_of_day}
use Rattle.gtd_calendar.specs.facts.TimeLemmas.{time_of-is, time_of-only}

months_later-is : (n : ℤ) (k : ℕ) → IsMonthsLater n k (months_later n k)
unfolding months_later day_in_month
months_later-is n k =
    let t = month_count (year_of n) (month_of n) +ℤ pos k in
    let parts = counted-parts t in
    let date = date_of-is n in
    let long = month_length_bounds (counted_year t) (counted_month t) in
    let reached : IsDateOf (day_number (counted_year t) (counted_month t)
    (min (day_of_month n) (month_length (counted_year t) (counted_month t)))) (counted_year t) (counted_month t)
    (min (day_of_month n) (month_length (counted_year t) (counted_month t))) = (
      ((parts.1, parts.2), within (day_of_month n) (month_length (counted_year t) (counted_month t)) date.0.1.0 long.1),
      refl,
    ) in (
      year_of n,
      counted_year t,
      month_of n,
      counted_month t,
      day_of_month n,
      date,
      moved (year_of n) (counted_year t) (month_of n) (counted_month t) k date.0.0.0 parts.1 parts.0,
      reached,
    )
  where
    moved : (y z : ℤ) (m l k : ℕ) → 1 ≤ m → 1 ≤ l → (pos 12 *ℤ y +ℤ pos (m - 1)) +ℤ pos k ≡ pos 12 *ℤ z +ℤ pos (l - 1)
        → pos 12 *ℤ z +ℤ pos l ≡ pos 12 *ℤ y +ℤ pos (m + k)
    moved y z m l k low first e = omega (arith, signed_arith)

    within : (d long : ℕ) → 1 ≤ d → 28 ≤ long → (1 ≤ min d long) × (min d long ≤ long)
    within d long low some = (omega arith, omega arith)

months_later-only : (n : ℤ) (k : ℕ) (r : ℤ) → IsMonthsLater n k r → r ≡ months_later n k
unfolding months_later day_in_month
months_later-only n k r (year, later_year, month, later_month, day, date, later, reached) =
    let only = date_of-only n year month day date in
    let t = month_count (year_of n) (month_of n) +ℤ pos k in
    let in_year = reached.0.0 in
    let first = date.0.0 in
    let at = counted-is t later_year (later_month - 1) (omega arith)
    (rw (← only.0, ← only.1) (counted year later_year month later_month k first.0 in_year.0 later)) in
    let back : later_month - 1 + 1 ≡ later_month = omega arith in
    let last : counted_month t ≡ later_month = at.1 ∙ back in
    rw (at.0, last, ← only.2) reached.1
  where
    counted : (y z : ℤ) (m l k : ℕ) → 1 ≤ m → 1 ≤ l → pos 12 *ℤ z +ℤ pos l ≡ pos 12 *ℤ y +ℤ pos (m + k)
        → (pos 12 *ℤ y +ℤ pos (m - 1)) +ℤ pos k ≡ pos 12 *ℤ z +ℤ pos (l - 1)
    counted y z m l k low first e = omega (arith, signed_arith)

-- a clock with more hours, minutes and seconds, as the seconds of a day with those of a duration
clock-more : (k hour minute second h m s : ℕ) → hour ≡ k / 3600 → minute ≡ k / 60 % 60 → second ≡ k % 60
    → 3600 * (hour + h) + 60 * (minute + m) + (second + s) ≡ k + (3600 * h + 60 * m + s)
clock-more k hour minute second h m s is_hour is_minute is_second = omega arith

-- the end that is computed is the stretch's end
pub stop-is : (p : DurationParts) (b : ℤ) → IsStop p b (stop p b)
unfolding stop
stop-is p b =
    let k = second_of_day b in
    let reached = months_later (day_of_second b) (12 * p.years + p.months) in (
      day_of_second b,
      reached,
      k / 3600,
      k / 60 % 60,
      k % 60,
      time_of-is b,
      months_later-is (day_of_second b) (12 * p.years + p.months),
      ap (λ clock. pos 86_400 *ℤ (reached +ℤ pos (7 * p.weeks + p.days)) +ℤ pos clock)
          (sym (clock-more k (k / 3600) (k / 60 % 60) (k % 60) p.hours p.minutes p.seconds refl refl refl)),
    )

-- and there is no other
pub stop-only : (p : DurationParts) (b e : ℤ) → IsStop p b e → e ≡ stop p b
unfolding stop
stop-only p b e (day, reached, hour, minute, second, time, months, is) =
    let at = time_of-only b day hour minute second time in
    let clock = clock-more (second_of_day b) hour minute second p.hours p.minutes p.seconds at.1 at.2 at.3 in
    rw (← at.0, ← months_later-only day (12 * p.years + p.months) reached months, ← clock) is
