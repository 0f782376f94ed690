-- A stretch that begins in a given year ends before a day that follows from that year and its duration.
use Rattle.std.proofs.Common.{◌≡◌, ℕ, ◌+◌, ◌-◌, ◌*◌, ◌/◌, ◌<◌, false, Option, Some, None, is_some, IfSome, refl, sym}
use Rattle.std.proofs.Common.{subst, arith, ℤ, pos, ◌+ℤ◌, ◌-ℤ◌, ◌*ℤ◌, ◌≤ℤ◌, ◌<ℤ◌}
use Rattle.gtd_calendar.specs.Calendar.{IsDateOf, IsWeekOf, first_day, thursday_of, year_length}
use Rattle.gtd_calendar.specs.Clock.{second_of_day}
use Rattle.gtd_calendar.specs.ComputedEnds.{stop}
use Rattle.gtd_calendar.specs.facts.ClockLemmas.{second-parts, stop-bound}
use Rattle.gtd_calendar.specs.facts.DateLemmas.{day_number-in_year}
use Rattle.gtd_calendar.specs.facts.Signed.{signed_arith}
use Rattle.gtd_calendar.specs.facts.StopLemmas.{stop-only}
use Rattle.gtd_calendar.specs.facts.TimeLemmas.{time_of-only}
use Rattle.gtd_calendar.specs.facts.YearLemmas.{first_day-next}
use Rattle.gtd_core.specs.Ranges.{bound_of, lookback_of}
use Rattle.gtd_core.specs.Seconds.{day_of_second}
use Rattle.gtd_core.specs.declared.duration.DurationParts.{DurationParts}
use Rattle.gtd_core.specs.declared.start.StartParts.{StartParts}
use Rattle.gtd_recur.specs.Membership.{InStretches, Matches}
use Rattle.gtd_warnings.specs.EndDays.{day_after_year}
use Rattle.gtd_warnings.specs.Over.{first_of_day}

-- the year after begins by then, three days before the day that is taken
next_first : (year : ℕ) → first_day (pos year +ℤ pos 1) ≤ℤ (pos (365 * year + year / 4) -ℤ pos 719_162)
unfolding first_day
next_first year = omega (arith, signed_arith)

-- a place in a year that begins on a day
placed : (n first next : ℤ) (long year : ℕ) → n <ℤ (first +ℤ pos long) → next ≡ first +ℤ pos long
    → next ≤ℤ (pos (365 * year + year / 4) -ℤ pos 719_162) → (n +ℤ pos 3) <ℤ day_after_year year 0
placed n first next long year lt e le = omega (arith, signed_arith)

dated : (n : ℤ) (year month day : ℕ) → IsDateOf n (pos year) month day → n <ℤ day_after_year year 0
dated n year month day h =
    let inside = rw (← h.1) at (day_number-in_year (pos year) month day h.0) in
    let far = placed n (first_day (pos year)) (first_day (pos year +ℤ pos 1)) (year_length (pos year)) year inside.1
    (first_day-next (pos year)) (next_first year) in
    earlier n (day_after_year year 0) far
  where
    earlier : (n end : ℤ) → (n +ℤ pos 3) <ℤ end → n <ℤ end
    earlier n end lt = omega (arith, signed_arith)

thursday_near : (n : ℤ) → n ≤ℤ (thursday_of n +ℤ pos 3)
unfolding thursday_of
thursday_near n = omega (arith, signed_arith)

of_week : (n : ℤ) (year week : ℕ) → IsWeekOf n (pos year) week → n <ℤ day_after_year year 0
of_week n year week h =
    let inside = within (thursday_of n) (first_day (pos year)) h.k (year_length (pos year)) h.thursday h.in_year in
    let far = placed (thursday_of n) (first_day (pos year)) (first_day (pos year +ℤ pos 1)) (year_length (pos year)) year inside
    (first_day-next (pos year)) (next_first year) in
    nearer n (thursday_of n) (day_after_year year 0) (thursday_near n) far
  where
    within : (n first : ℤ) (k long : ℕ) → n ≡ first +ℤ pos k → k < long → n <ℤ (first +ℤ pos long)
    within n first k long e lt = omega (arith, signed_arith)

    nearer : (n thursday end : ℤ) → n ≤ℤ (thursday +ℤ pos 3) → (thursday +ℤ pos 3) <ℤ end → n <ℤ end
    nearer n thursday end le lt = omega (arith, signed_arith)

by_week : (week given : Option ℕ) (n of : ℤ) (year month day : ℕ) → given ≡ Some year → IsDateOf n of month day
    → (is_some week ≡ false → IfSome given (λ y. pos y ≡ of))
    → IfSome week (λ w. (in_year : ℤ) × IsWeekOf n in_year w × IfSome given (λ y. pos y ≡ in_year)) → n <ℤ day_after_year year 0
by_week None given n of year month day e date in_year in_week =
    let is : pos year ≡ of = rw e at (in_year refl) in
    dated n year month day (subst (λ (z : ℤ). IsDateOf n z month day) (sym is) date)
by_week (Some w) given n of year month day e date in_year in_week =
    let is : pos year ≡ in_week.0 = rw e at in_week.2 in
    of_week n year w (subst (λ (z : ℤ). IsWeekOf n z w) (sym is) in_week.1)

begins_before : (p : StartParts) (b : ℤ) (year : ℕ) → p.year ≡ Some year → Matches p b
    → day_of_second b <ℤ day_after_year year 0
begins_before p b year e (n, hour, minute, second, time, holds, on_hour, on_minute, on_second) =
    let day = (time_of-only b n hour minute second time).0 in
    subst (λ (z : ℤ). z <ℤ day_after_year year 0) day
    (by_week p.week p.year n holds.year year holds.month holds.day e holds.date holds.in_year holds.in_week)

-- each second of a basic domain whose start gives the year comes before that day
pub ends_before : (p : StartParts) (q : DurationParts) (t : ℤ) (year : ℕ) → p.year ≡ Some year → InStretches p q t
    → t <ℤ first_of_day (day_after_year year (lookback_of q))
unfolding InStretches
ends_before p q t year e (b, end, matches, stops, from, until) =
    let parts = second-parts b in
    let bound = (stop-bound q b).1 in
    let is = stop-only q b end stops in
    in_time t b end (stop q b) (day_of_second b) (second_of_day b) (365 * year + year / 4) (bound_of q) until is bound parts.0
    parts.1 (begins_before p b year e matches)
  where
    in_time : (t b end stop day : ℤ) (second days bound : ℕ) → t <ℤ end → end ≡ stop → stop ≤ℤ (b +ℤ pos bound)
        → b ≡ pos 86400 *ℤ day +ℤ pos second → second < 86400 → day <ℤ (pos (days + 0) -ℤ pos 719_159)
        → t <ℤ first_of_day (pos (days + (bound + (86400 - 1)) / 86400) -ℤ pos 719_159)
    in_time t b end stop day second days bound until is far at low before = omega (arith, signed_arith)
