-- A start that asks for no date begins again a week later.
use Rattle.std.proofs.Common.{◌≢◌, ◌⊎◌, inl, inr, Bool, true, false, not, ◌&&◌, ◌||◌, ◌==◌, ◌≡◌, ℕ, refl, sym, ◌∙◌}
use Rattle.std.proofs.Common.{ap, arith, ℤ, pos, ◌+ℤ◌, ◌*ℤ◌}
use Rattle.std.proofs.lemmas.Bool.{ne_eqb}
use Rattle.gtd_calendar.specs.facts.Signed.{signed_arith, one_part}
use Rattle.std.specs.Int.{int_rem_euclid}
use Rattle.gtd_core.specs.declared.start.StartParts.{StartParts}
use Rattle.gtd_core.specs.declared.duration.DurationParts.{DurationParts}
use Rattle.gtd_calendar.specs.Calendar.{weekday_of}
use Rattle.gtd_calendar.specs.declared.day.DayFields.{DayFields}
use Rattle.gtd_calendar.specs.ComputedFields.{day_fields}
use Rattle.gtd_core.specs.Seconds.{day_of_second}
use Rattle.gtd_calendar.specs.facts.ClockLemmas.{second-parts, second-only}
use Rattle.gtd_calendar.specs.Clock.{second_of_day}
use Rattle.gtd_recur.specs.Begins.{begins, begins_on, gives_clock, is_weekday, weekday_agrees}
use Rattle.gtd_recur.specs.Membership.{InStretches}
use Rattle.gtd_recur.specs.facts.RepeatLemmas.{repeats-forward, repeats-back}
use Rattle.gtd_recur.specs.Weekly.{AsksNoDate, IsWeekly}

weekday-week : (n : ℤ) → weekday_of (n +ℤ pos 7) ≡ weekday_of n
unfolding weekday_of
weekday-week n = omega (
  arith,
  signed_arith,
  one_part (int_rem_euclid (n +ℤ pos 4) (pos 7)),
  one_part (int_rem_euclid (n +ℤ pos 7 +ℤ pos 4) (pos 7)),
)

day-week : (s : ℤ) → (day_of_second (s +ℤ pos 604_800) ≡ day_of_second s +ℤ pos 7)
    × (second_of_day (s +ℤ pos 604_800) ≡ second_of_day s)
day-week s =
    let p = second-parts s in
    second-only (s +ℤ pos 604_800) (day_of_second s +ℤ pos 7) (second_of_day s) p.1
    (later s (day_of_second s) (second_of_day s) p.0)
  where
    later : (s n : ℤ) (k : ℕ) → s ≡ pos 86400 *ℤ n +ℤ pos k → s +ℤ pos 604_800 ≡ pos 86400 *ℤ (n +ℤ pos 7) +ℤ pos k
    later s n k e = omega (arith, signed_arith)

-- a day's level is free if weekdays or the clock are given
free : (days clock month day weekday : Bool) → (days ≡ true) ⊎ (clock ≡ true)
    → ((days || clock) || month) && (weekday && (days || (clock || day))) ≡ weekday
free true clock month day true h = refl
free true clock month day false h = refl
free false true month day true h = refl
free false true month day false h = refl
free false false month day weekday h = absurd (elim h [ inl e ↦ cc | inr e ↦ cc ])

given-days : (k : ℕ) → k ≢ 0 → not (k == 0) ≡ true
given-days k h = rw (ne_eqb k 0 h) refl

some-given : (k : ℕ) (clock : Bool) → (k ≢ 0) ⊎ (clock ≡ true) → (not (k == 0) ≡ true) ⊎ (clock ≡ true)
some-given k clock (inl days) = inl (given-days k days)
some-given k clock (inr given) = inr given

-- a start that asks for no date begins on a day exactly if the weekday agrees
pub date-free : (p : StartParts) (f : DayFields) → AsksNoDate p → begins_on p f ≡ weekday_agrees p f
date-free p f a = rw (a.year, a.month, a.week, a.day, a.nth, a.nth_back)
    (free (not (p.weekdays == 0)) (gives_clock p) (1 == f.month) (f.day == 1) (weekday_agrees p f)
    (some-given p.weekdays (gives_clock p) a.some))

begins_on-week : (p : StartParts) (q : DurationParts) (n : ℤ) → IsWeekly p q → begins_on p (day_fields (n +ℤ pos 7))
    ≡ begins_on p (day_fields n)
begins_on-week p q n w = date-free p (day_fields (n +ℤ pos 7)) w.start ∙ ap (λ (k : ℕ). is_weekday p k) (weekday-week n)
    ∙ sym (date-free p (day_fields n) w.start)

pub begins-week : (p : StartParts) (q : DurationParts) (s : ℤ) → IsWeekly p q → begins p (s +ℤ pos 604_800) ≡ begins p s
unfolding begins
begins-week p q s w = let at = day-week s in rw (at.0, at.1, begins_on-week p q (day_of_second s) w) refl

-- the basic domain repeats
pub week-forward : (p : StartParts) (q : DurationParts) (s : ℤ) → IsWeekly p q → InStretches p q s
    → InStretches p q (s +ℤ pos 604_800)
week-forward p q s w = repeats-forward (pos 604_800) p q s (λ b. begins-week p q b w) w

pub week-back : (p : StartParts) (q : DurationParts) (s : ℤ) → IsWeekly p q → InStretches p q (s +ℤ pos 604_800)
    → InStretches p q s
week-back p q s w = repeats-back (pos 604_800) p q s (λ b. begins-week p q b w) w
