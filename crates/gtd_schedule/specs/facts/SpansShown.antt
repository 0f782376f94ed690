-- The spans of a horizon: how many they are, and that their days have texts.
use Rattle.std.proofs.Common.{◌≡◌, arith, ◌<◌, ◌≤◌, ℕ, inl, inr, List, [], ◌∷◌, length}
use Rattle.std.specs.Prelude.{ℤ, pos, negsuc, ◌+ℤ◌, ◌-ℤ◌, ◌*ℤ◌, ◌≤ℤ◌, ◌<ℤ◌}
use Rattle.std.proofs.lemmas.Int.{ints}
use Rattle.gtd_calendar.specs.facts.ClockLemmas.{second-parts}
use Rattle.gtd_calendar.specs.Calendar.{IsCalendarDay}
use Rattle.gtd_core.specs.Seconds.{day_of_second, Interval}
use Rattle.gtd_calendar.specs.Clock.{second_of_day}
use Rattle.gtd_core.specs.Whole.{whole}
use Rattle.gtd_core.specs.declared.horizon.Horizon.{Horizon}
use Rattle.gtd_eval.specs.Membership.{IsNormalOver}
use Rattle.gtd_report.specs.Putting.{most_direction_lines}
use Rattle.gtd_schedule.specs.Lines.{AreShown}
use Rattle.gtd_spans.specs.Normal.{AllBeginFrom, AreInOrder, Holds}

-- Spans one after the other, from one second on and before another.
abbrev pub Fit : ℤ → ℤ → List Interval → Type 0
Fit from until [] = from ≤ℤ until
Fit from until (x ∷ xs) = (from ≤ℤ x.from) × (x.from <ℤ x.until) × Fit x.until until xs

fit_order : (from until : ℤ) (xs : List Interval) → from ≤ℤ until → AreInOrder xs → AllBeginFrom from xs
    → ((t : ℤ) → Holds xs t → t <ℤ until) → Fit from until xs
fit_order from until [] some order after inside = some
fit_order from until (x ∷ xs) some order after inside =
    let last = inside (x.until -ℤ pos 1) (inl (omega (arith, ints, order.0), omega (arith, ints))) in
    (after.0, order.0, fit_order x.until until xs (omega (arith, ints, last)) order.2 order.1 (λ t h. inside t (inr h)))

-- there are no more of them than seconds
fit_few : (from until : ℤ) (xs : List Interval) → Fit from until xs → (from +ℤ pos (length xs)) ≤ℤ until
fit_few from until [] fit = omega (arith, ints, fit)
fit_few from until (x ∷ xs) fit = let few = fit_few x.until until xs fit.2 in omega (arith, ints, few, fit.0, fit.1)

fit_ends : (from until : ℤ) (xs : List Interval) → Fit from until xs → from ≤ℤ until
fit_ends from until [] fit = fit
fit_ends from until (x ∷ xs) fit = let rest = fit_ends x.until until xs fit.2 in omega (arith, ints, rest, fit.0, fit.1)

begin_from : (from : ℤ) (xs : List Interval) → AreInOrder xs → ((t : ℤ) → Holds xs t → from ≤ℤ t) → AllBeginFrom from xs
begin_from from [] order inside = tt
begin_from from (x ∷ xs) order inside =
    (inside x.from (inl (omega (arith, ints), order.0)), begin_from from xs order.2 (λ t h. inside t (inr h)))

day_in : (t n : ℤ) (k : ℕ) → negsuc 2177452799 ≤ℤ t → t ≤ℤ pos 23036572800 → t ≡ pos 86400 *ℤ n +ℤ pos k → k < 86400
    → IsCalendarDay n
day_in t n k low high is clock = (omega (arith, ints, low, is, clock), omega (arith, ints, high, is))

calendar_day : (t : ℤ) → negsuc 2177452799 ≤ℤ t → t ≤ℤ pos 23036572800 → IsCalendarDay (day_of_second t)
calendar_day t low high =
    let parts = second-parts t in day_in t (day_of_second t) (second_of_day t) low high parts.0 parts.1

fit_shown : (from until : ℤ) (xs : List Interval) → negsuc 2177452799 ≤ℤ from → until ≤ℤ pos 23036572800 → Fit from until xs
    → AreShown xs
fit_shown from until [] low high fit = tt
fit_shown from until (x ∷ xs) low high fit =
    let ends = fit_ends x.until until xs fit.2 in (
      calendar_day x.from (omega (arith, ints, low, fit.0)) (omega (arith, ints, high, fit.1, ends)),
      calendar_day x.until (omega (arith, ints, low, fit.0, fit.1)) (omega (arith, ints, high, ends)),
      fit_shown x.until until xs (omega (arith, ints, low, fit.0, fit.1)) high fit.2,
    )

module _ (set : ℤ → Type 0) (horizon : Horizon) (spans : List Interval) (normal : IsNormalOver set horizon spans) where
  normal_fit : Fit (whole horizon).from (whole horizon).until spans
  normal_fit =
      fit_order (whole horizon).from (whole horizon).until spans (omega (arith, ints, horizon.not_empty)) normal.order
      (begin_from (whole horizon).from spans normal.order (λ t h. (normal.inside t h).0)) (λ t h. (normal.inside t h).1)

  -- the spans of a horizon have texts
  pub normal_shown : AreShown spans
  normal_shown =
      fit_shown (whole horizon).from (whole horizon).until spans
      (omega (arith, ints, horizon.not_early)) (omega (arith, ints, horizon.not_late)) normal_fit

  -- and there are no more of them than seconds in the longest horizon
  pub normal_few : length spans ≤ most_direction_lines
  normal_few =
      let few = fit_few (whole horizon).from (whole horizon).until spans normal_fit in
      omega (arith, ints, few, horizon.not_long)

-- the first day of a horizon has a text
pub first_shown : (horizon : Horizon) → IsCalendarDay (day_of_second (whole horizon).from)
first_shown horizon =
    calendar_day (whole horizon).from (omega (arith, ints, horizon.not_early))
    (omega (arith, ints, horizon.not_empty, horizon.not_late))
