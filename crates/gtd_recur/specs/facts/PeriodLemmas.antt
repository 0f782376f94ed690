-- A basic domain repeats after each period that its fields let it repeat after.
use Rattle.std.proofs.Common.{◌≡◌, ◌↔◌, inl, inr, Bool, true, false, ◌||◌, ◌&&◌, ◌==◌, ℕ, ◌/◌, ◌%◌}
use Rattle.std.proofs.Common.{refl, sym, ◌∙◌, arith, None, is_some, ℤ, pos, ◌+ℤ◌, ◌*ℤ◌, ◌<ℤ◌, ◌≤ℤ◌}
use Rattle.gtd_calendar.specs.facts.Signed.{signed_arith}
use Rattle.gtd_core.specs.declared.start.StartParts.{StartParts}
use Rattle.gtd_core.specs.declared.duration.DurationParts.{DurationParts}
use Rattle.gtd_core.specs.Seconds.{day_of_second}
use Rattle.gtd_calendar.specs.Clock.{second_of_day}
use Rattle.gtd_calendar.specs.ComputedFields.{day_fields}
use Rattle.gtd_calendar.specs.declared.day.DayFields.{DayFields}
use Rattle.gtd_calendar.specs.facts.ClockLemmas.{second-parts, second-only}
use Rattle.gtd_recur.specs.Begins.{agrees_or_least, begins, begins_at, begins_on, gives_clock}
use Rattle.gtd_recur.specs.Membership.{InStretches}
use Rattle.gtd_recur.specs.Periods.{period_seconds, IsPeriod, RepeatsAfter}
use Rattle.gtd_recur.specs.Weekly.{AsksNoDate}
use Rattle.gtd_recur.specs.declared.period.Period.{Period}
use Rattle.gtd_recur.specs.declared.period.Period.TheVariants.{Minute, Hour, Day, Week}
use Rattle.gtd_recur.specs.facts.RepeatLemmas.{BeginsAgain, repeats-forward, repeats-back}
use Rattle.gtd_recur.specs.facts.WeekLemmas.{begins-week, date-free}

-- a start that asks for no date and no weekday begins on every day
every-day : (p : StartParts) (f : DayFields) → AsksNoDate p → p.weekdays ≡ 0 → begins_on p f ≡ true
every-day p f a none = date-free p f a ∙ rw none refl

-- and then the clock alone says when it begins
by-clock : (p : StartParts) (s : ℤ) → AsksNoDate p → p.weekdays ≡ 0 → begins p s ≡ begins_at p (second_of_day s)
unfolding begins
by-clock p s a none = rw (every-day p (day_fields (day_of_second s)) a none) refl

-- a field of the clock is then given
clock-given : (p : StartParts) → AsksNoDate p → p.weekdays ≡ 0 → gives_clock p ≡ true
clock-given p a none = elim (a.some) [ inl some ↦ absurd (some none) | inr clock ↦ clock ]

-- a day later it is the same second of the day
day-later : (s : ℤ) → second_of_day (s +ℤ pos 86400) ≡ second_of_day s
day-later s =
    let at = second-parts s in
    (second-only (s +ℤ pos 86400) (day_of_second s +ℤ pos 1) (second_of_day s) at.1
    (later s (day_of_second s) (second_of_day s) at.0)).1
  where
    later : (s n : ℤ) (k : ℕ) → s ≡ pos 86400 *ℤ n +ℤ pos k → s +ℤ pos 86400 ≡ pos 86400 *ℤ (n +ℤ pos 1) +ℤ pos k
    later s n k e = omega (arith, signed_arith)

-- an hour later it is the same minute and second
hour-later : (s : ℤ) → (second_of_day (s +ℤ pos 3600) / 60 % 60 ≡ second_of_day s / 60 % 60)
    × (second_of_day (s +ℤ pos 3600) % 60 ≡ second_of_day s % 60)
hour-later s =
    let at = second-parts s in
    let then = second-parts (s +ℤ pos 3600) in
    same s (day_of_second s) (day_of_second (s +ℤ pos 3600)) (second_of_day s) (second_of_day (s +ℤ pos 3600)) at.0 then.0
  where
    same : (s n m : ℤ) (k l : ℕ) → s ≡ pos 86400 *ℤ n +ℤ pos k → s +ℤ pos 3600 ≡ pos 86400 *ℤ m +ℤ pos l
        → (l / 60 % 60 ≡ k / 60 % 60) × (l % 60 ≡ k % 60)
    same s n m k l e f = (omega (arith, signed_arith), omega (arith, signed_arith))

-- a minute later it is the same second
minute-later : (s : ℤ) → second_of_day (s +ℤ pos 60) % 60 ≡ second_of_day s % 60
minute-later s =
    let at = second-parts s in
    let then = second-parts (s +ℤ pos 60) in
    same s (day_of_second s) (day_of_second (s +ℤ pos 60)) (second_of_day s) (second_of_day (s +ℤ pos 60)) at.0 then.0
  where
    same : (s n m : ℤ) (k l : ℕ) → s ≡ pos 86400 *ℤ n +ℤ pos k → s +ℤ pos 60 ≡ pos 86400 *ℤ m +ℤ pos l → l % 60 ≡ k % 60
    same s n m k l e f = omega (arith, signed_arith)

-- without an hour the minute and the second alone say when it begins
hour-free : (p : StartParts) (k : ℕ) → gives_clock p ≡ true → p.hour ≡ None
    → begins_at p k ≡ agrees_or_least p.minute (is_some p.second) 0 (k / 60 % 60) && agrees_or_least p.second false 0 (k % 60)
hour-free p k clock none =
    rw none (free (is_some p.minute || is_some p.second) (0 == k / 3600) _ (rw none at clock))
  where
    free : (finer least rest : Bool) → finer ≡ true → ((finer || least) && rest) ≡ rest
    free true least rest e = refl
    free false least rest e = cc

-- without a minute, too, the second alone does
minute-free : (p : StartParts) (k : ℕ) → gives_clock p ≡ true → p.hour ≡ None → p.minute ≡ None
    → begins_at p k ≡ agrees_or_least p.second false 0 (k % 60)
minute-free p k clock hour none =
    hour-free p k clock hour ∙ rw none (free (is_some p.second) (0 == k / 60 % 60) _ (rw (hour, none) at clock))
  where
    free : (finer least rest : Bool) → finer ≡ true → ((finer || least) && rest) ≡ rest
    free true least rest e = refl
    free false least rest e = cc

begins-day : (p : StartParts) → AsksNoDate p → p.weekdays ≡ 0 → BeginsAgain (pos 86400) p
begins-day p a none b = by-clock p (b +ℤ pos 86400) a none ∙ rw (day-later b) (sym (by-clock p b a none))

begins-hour : (p : StartParts) → AsksNoDate p → p.weekdays ≡ 0 → p.hour ≡ None → BeginsAgain (pos 3600) p
begins-hour p a none hour b =
    let clock = clock-given p a none in
    let later = hour-later b in
    by-clock p (b +ℤ pos 3600) a none ∙ hour-free p (second_of_day (b +ℤ pos 3600)) clock hour
    ∙ rw (later.0, later.1) (sym (by-clock p b a none ∙ hour-free p (second_of_day b) clock hour))

begins-minute : (p : StartParts) → AsksNoDate p → p.weekdays ≡ 0 → p.hour ≡ None → p.minute ≡ None → BeginsAgain (pos 60) p
begins-minute p a none hour minute b =
    let clock = clock-given p a none in
    by-clock p (b +ℤ pos 60) a none ∙ minute-free p (second_of_day (b +ℤ pos 60)) clock hour minute
    ∙ rw (minute-later b) (sym (by-clock p b a none ∙ minute-free p (second_of_day b) clock hour minute))

begins-again : (period : Period) (p : StartParts) (q : DurationParts) → RepeatsAfter (period_seconds period) p q
    → BeginsAgain (period_seconds period) p
begins-again Minute p q r =
    begins-minute p r.weekly.start (r.day (omega (arith, signed_arith))) (r.hour (omega (arith, signed_arith)))
    (r.minute (omega (arith, signed_arith)))
begins-again Hour p q r =
    begins-hour p r.weekly.start (r.day (omega (arith, signed_arith))) (r.hour (omega (arith, signed_arith)))
begins-again Day p q r = begins-day p r.weekly.start (r.day (omega (arith, signed_arith)))
begins-again Week p q r = λ b. begins-week p q b r.weekly

-- a second is in the basic domain exactly if the one a period later is
pub period-forward : (w : ℤ) (p : StartParts) (q : DurationParts) (s : ℤ) → IsPeriod w → RepeatsAfter w p q → InStretches p q s
    → InStretches p q (s +ℤ w)
period-forward w p q s period r member =
    let again = begins-again period.0 p q (rw period.1 at r) in
    repeats-forward w p q s (rw period.1 again) r.weekly member

pub period-back : (w : ℤ) (p : StartParts) (q : DurationParts) (s : ℤ) → IsPeriod w → RepeatsAfter w p q
    → InStretches p q (s +ℤ w) → InStretches p q s
period-back w p q s period r member =
    let again = begins-again period.0 p q (rw period.1 at r) in
    repeats-back w p q s (rw period.1 again) r.weekly member

-- the same, as one
pub period-repeats : (period : Period) (p : StartParts) (q : DurationParts) (s : ℤ) → RepeatsAfter (period_seconds period) p q
    → InStretches p q s ↔ InStretches p q (s +ℤ period_seconds period)
period-repeats period p q s r = (
  period-forward (period_seconds period) p q s (period, refl) r,
  period-back (period_seconds period) p q s (period, refl) r,
)

-- what repeats after a period repeats after a longer one
pub repeats-longer : (v w : ℤ) (p : StartParts) (q : DurationParts) → v ≤ℤ w → RepeatsAfter v p q → RepeatsAfter w p q
repeats-longer v w p q le r = record {
  weekly = r.weekly;
  day = λ lt. r.day (below v w (pos 604_800) le lt);
  hour = λ lt. r.hour (below v w (pos 86400) le lt);
  minute = λ lt. r.minute (below v w (pos 3600) le lt);
}
  where
    below : (v w n : ℤ) → v ≤ℤ w → w <ℤ n → v <ℤ n
    below v w n le lt = omega (arith, signed_arith)
