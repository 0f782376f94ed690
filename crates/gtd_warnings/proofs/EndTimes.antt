-- Where a warning names an end, each stretch ends at that time of the day; and a part that stays has no stretch that goes on.
use Rattle.std.proofs.Common.{◌≡◌, ◌≢◌, ◌∙◌, ◌⊎◌, ℕ, ◌+◌, ◌*◌, ◌/◌, ◌%◌, ◌<◌, ◌≤◌, Bool, true, false, ◌||◌, Option, Some, None, is_some}
use Rattle.std.proofs.Common.{refl, subst, inl, inr, arith, ℤ, pos, ◌+ℤ◌, ◌*ℤ◌, ◌<ℤ◌, ◌≤ℤ◌}
use Rattle.gtd_calendar.specs.Clock.{IsStop}
use Rattle.gtd_calendar.specs.facts.ClockLemmas.{stop-without_months}
use Rattle.gtd_calendar.specs.facts.Signed.{signed_arith}
use Rattle.gtd_calendar.specs.facts.StopLemmas.{stop-only}
use Rattle.gtd_calendar.specs.facts.TimeLemmas.{time_of-only}
use Rattle.gtd_core.specs.Ranges.{clock_seconds}
use Rattle.gtd_core.specs.Seconds.{day_of_second}
use Rattle.gtd_core.specs.declared.duration.DurationParts.{DurationParts}
use Rattle.gtd_core.specs.declared.start.StartParts.{StartParts}
use Rattle.gtd_mistakes.specs.Shapes.{EndsAfterMidnight, EndsWithinDay, HasOneTime, LastsClock, begin_of, days_of, last_begin_of}
use Rattle.gtd_mistakes.specs.Shapes.{months_of, or_last, or_zero}
use Rattle.gtd_recur.specs.Membership.{HasNumber, Matches}
use Rattle.gtd_warnings.specs.Over.{first_of_day}

abbrev clock_of : ℕ → ℕ → ℕ → ℕ
clock_of h m s = 3600 * h + 60 * m + s

-- ---- the numbers of a clock

-- a number that a level has is no less than the one that counts as given, and no more than the last one
zero_low : (o : Option ℕ) (finer : Bool) (n : ℕ) → HasNumber o finer 0 n → or_zero o ≤ n
zero_low None finer n h = omega arith
zero_low (Some given) finer n h = omega (arith, h)

last_high : (o : Option ℕ) (finer : Bool) (n last : ℕ) → HasNumber o finer 0 n → n ≤ last → n ≤ or_last o finer last
last_high None true n last h le = le
last_high None false n last h le = let is = h refl in omega (arith, is)
last_high (Some given) finer n last h le = omega (arith, h)

zero_is : (o : Option ℕ) (n : ℕ) → HasNumber o false 0 n → n ≡ or_zero o
zero_is None n h = h refl
zero_is (Some given) n h = h

given_is : (o : Option ℕ) (finer : Bool) (n : ℕ) → o ≢ None → HasNumber o finer 0 n → n ≡ or_zero o
given_is None finer n some h = absurd (some refl)
given_is (Some given) finer n some h = h

minute_is : (minute second : Option ℕ) (n : ℕ) → (second ≡ None) ⊎ (minute ≢ None) → HasNumber minute (is_some second) 0 n
    → n ≡ or_zero minute
minute_is minute second n (inl none) h = zero_is minute n (subst (λ (o : Option ℕ). HasNumber minute (is_some o) 0 n) none h)
minute_is minute second n (inr some) h = given_is minute (is_some second) n some h

-- ---- begins

module _ (start : StartParts) (b : ℤ) where
  -- where the clock stands at one second of a day, each stretch begins at it
  pub begins_at : start.hour ≢ None → HasOneTime start → Matches start b
      → b ≡ pos 86400 *ℤ day_of_second b +ℤ pos (begin_of start)
  begins_at hour one (n, h, m, s, time, holds, on_hour, on_minute, on_second) =
      let day = (time_of-only b n h m s time).0 in
      let at = given_is start.hour (is_some start.minute || is_some start.second) h hour on_hour in
      let of = minute_is start.minute start.second m one on_minute in
      let last = zero_is start.second s on_second in
      rw (← at, ← of, ← last, ← day) time.is

  -- each stretch begins between the first and the last second of a day at which the clock stands
  pub begins_by : Matches start b → (k : ℕ) × (begin_of start ≤ k) × (k ≤ last_begin_of start)
      × (b ≡ pos 86400 *ℤ day_of_second b +ℤ pos k)
  begins_by (n, h, m, s, time, holds, on_hour, on_minute, on_second) =
      let day = (time_of-only b n h m s time).0 in
      let low_hour = zero_low start.hour (is_some start.minute || is_some start.second) h on_hour in
      let low_minute = zero_low start.minute (is_some start.second) m on_minute in
      let clock = time.clock in
      let high_hour = last_high start.hour (is_some start.minute || is_some start.second) h 23 on_hour (below h 23 clock.0) in
      let high_minute = last_high start.minute (is_some start.second) m 59 on_minute (below m 59 clock.1) in
      let last = zero_is start.second s on_second in (
        clock_of h m s,
        low h m s (or_zero start.hour) (or_zero start.minute) (or_zero start.second) low_hour low_minute last,
        high h m s _ _ (or_zero start.second) high_hour high_minute last,
        rw (← day) time.is,
      )
    where
      below : (n last : ℕ) → n < last + 1 → n ≤ last
      below n last lt = omega (arith, lt)

      low : (h m s x y z : ℕ) → x ≤ h → y ≤ m → s ≡ z → clock_of x y z ≤ clock_of h m s
      low h m s x y z p q e = omega (arith, p, q, e)

      high : (h m s x y z : ℕ) → h ≤ x → m ≤ y → s ≡ z → clock_of h m s ≤ clock_of x y z
      high h m s x y z p q e = omega (arith, p, q, e)

-- ---- ends

stops_at : (q : DurationParts) (b e : ℤ) → months_of q ≡ 0 → IsStop q b e → e ≡ b +ℤ pos (86400 * days_of q + clock_seconds q)
stops_at q b e none stops = stop-only q b e stops ∙ stop-without_months q b none

module _ (start : StartParts) (q : DurationParts) (b e : ℤ) (matches : Matches start b) (stops : IsStop q b e) where
  -- an end that is named: so many seconds after the beginning of the first day
  pub named_end : start.hour ≢ None → HasOneTime start → LastsClock q
      → e ≡ pos 86400 *ℤ day_of_second b +ℤ pos (begin_of start + clock_seconds q)
  named_end hour one lasts =
      ends b e (day_of_second b) (begin_of start) (days_of q) (clock_seconds q) (begins_at start b hour one matches) lasts.1
      (stops_at q b e lasts.0 stops)
    where
      ends : (b e day : ℤ) (begin days clock : ℕ) → b ≡ pos 86400 *ℤ day +ℤ pos begin → days ≡ 0
          → e ≡ b +ℤ pos (86400 * days + clock) → e ≡ pos 86400 *ℤ day +ℤ pos (begin + clock)
      ends b e day begin days clock begins none is = omega (arith, signed_arith)

  -- a stretch of a part that stays ends on its first day
  pub stays : EndsWithinDay start q → e ≤ℤ first_of_day (day_of_second b +ℤ pos 1)
  stays within =
      let begins = begins_by start b matches in
      ends b e (day_of_second b) begins.0 (last_begin_of start) (86400 * days_of q) (clock_seconds q) begins.3 begins.2 within.1
      (stops_at q b e within.0 stops)
    where
      ends : (b e day : ℤ) (k last days clock : ℕ) → b ≡ pos 86400 *ℤ day +ℤ pos k → k ≤ last → last + days + clock ≤ 86400
          → e ≡ b +ℤ pos (days + clock) → e ≤ℤ first_of_day (day +ℤ pos 1)
      ends b e day k last days clock begins le within is = omega (arith, signed_arith)

  -- a stretch of a night goes on after midnight
  pub goes_on : EndsAfterMidnight start q → first_of_day (day_of_second b +ℤ pos 1) <ℤ e
  goes_on night =
      let begins = begins_by start b matches in
      ends b e (day_of_second b) begins.0 (begin_of start) (days_of q) (clock_seconds q) begins.3 begins.1 night.0.1 night.2
      (stops_at q b e night.0.0 stops)
    where
      ends : (b e day : ℤ) (k first days clock : ℕ) → b ≡ pos 86400 *ℤ day +ℤ pos k → first ≤ k → days ≡ 0
          → 86400 < first + clock → e ≡ b +ℤ pos (86400 * days + clock) → first_of_day (day +ℤ pos 1) <ℤ e
      ends b e day k first days clock begins le none after is = omega (arith, signed_arith)

-- an end is at that second of some day, and if it is more than a day and less than two after the first midnight, of the next
pub at_time : (b e : ℤ) (k : ℕ) → e ≡ pos 86400 *ℤ day_of_second b +ℤ pos k
    → (day : ℤ) × (e ≡ first_of_day day +ℤ pos (k % 86_400))
at_time b e k is = parted e (day_of_second b) k is
  where
    parted : (e day : ℤ) (k : ℕ) → e ≡ pos 86400 *ℤ day +ℤ pos k → (at : ℤ) × (e ≡ first_of_day at +ℤ pos (k % 86_400))
    parted e day k is = (day +ℤ pos (k / 86_400), omega (arith, signed_arith))

pub next_day : (b e : ℤ) (begin clock : ℕ) → e ≡ pos 86400 *ℤ day_of_second b +ℤ pos (begin + clock) → begin < clock
    → clock < 86_400 → 86_400 < begin + clock
    → e ≡ first_of_day (day_of_second b +ℤ pos 1) +ℤ pos ((begin + clock) % 86_400)
next_day b e begin clock is less few more = parted e (day_of_second b) begin clock is less few more
  where
    parted : (e day : ℤ) (begin clock : ℕ) → e ≡ pos 86400 *ℤ day +ℤ pos (begin + clock) → begin < clock → clock < 86_400
        → 86_400 < begin + clock → e ≡ first_of_day (day +ℤ pos 1) +ℤ pos ((begin + clock) % 86_400)
    parted e day begin clock is less few more = omega (arith, signed_arith)
