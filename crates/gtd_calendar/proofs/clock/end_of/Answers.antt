use Rattle.std.proofs.Common.{arith, rules, ◌≡◌, to_z, of_z, w64, to_z-of_z, ◌+◌, ◌*◌, ◌∙◌, sym, ◌≤◌, ◌<◌, ℕ, ℤ, pos}
use Rattle.std.proofs.Common.{◌+ℤ◌, ◌*ℤ◌, FitsSigned}
use Rattle.std.proofs.lemmas.Int.{to_z_pos}
use Rattle.jiff_core.proofs.SignedLemmas.{signed_arith}
use Rattle.gtd_core.specs.Seconds.{day_of_second}
use Rattle.gtd_calendar.specs.ComputedEnds.{stop, months_later}
use Rattle.gtd_calendar.specs.Calendar.{IsCalendarDay}
use Rattle.gtd_calendar.specs.Clock.{second_of_day}
use Rattle.gtd_calendar.specs.facts.ClockLemmas.{second-parts, stop-bound, stop-without_months}
use Rattle.gtd_calendar.specs.facts.StopLemmas.{stop-is}
use Rattle.gtd_core.specs.Parts.{duration_parts}
use Rattle.gtd_calendar.proofs.clock.end_of.Goals as goal

pub returns-clause-value : goal.returns-clause-value
unfolding stop
returns-clause-value c =
    let fits : FitsSigned w64 c.day.result = search rules in
    let same : to_z w64 (of_z w64 c.day.result) ≡ c.day.result = to_z-of_z fits in
    let moved : c.months_later-moved.result ≡ months_later (day_of_second c.args.start.0)
    (12 * (duration_parts c.args.duration.now).years + (duration_parts c.args.duration.now).months) =
    rw (same, c.day.ensures.value, c.whole_months-months.ensures.value) at c.months_later-moved.ensures.value in
    rw (← moved, ← c.second_of_day.ensures.value, ← c.whole_days-2.ensures.value, ← c.clock-2.ensures.value)
    (omega (arith, signed_arith))

pub returns-clause-later : goal.returns-clause-later
returns-clause-later c = rw (returns-clause-value c) (stop-bound (duration_parts c.args.duration.now) c.args.start.0).0

pub returns-clause-within_bound : goal.returns-clause-within_bound
returns-clause-within_bound c = rw (returns-clause-value c)
    (stop-bound (duration_parts c.args.duration.now) c.args.start.0).1

pub returns-clause-stop : goal.returns-clause-stop
returns-clause-stop c = rw (returns-clause-value c) (stop-is (duration_parts c.args.duration.now) c.args.start.0)

-- a second of a calendar day and a length within the bound have a sum that fits, and the code finds it
short_sum : (b n : ℤ) (second lasts : ℕ) → FitsSigned w64 b → IsCalendarDay n → b ≡ pos 86400 *ℤ n +ℤ pos second
    → second < 86400 → lasts ≤ 10_000_000_000
    → FitsSigned w64 (to_z w64 (of_z w64 b) +ℤ to_z w64 lasts)
    × (to_z w64 (of_z w64 (to_z w64 (of_z w64 b) +ℤ to_z w64 lasts)) ≡ b +ℤ pos lasts)
short_sum b n second lasts fits day is clock few =
    let cast : to_z w64 lasts ≡ pos lasts = to_z_pos w64 lasts (omega (arith, few)) in
    let sum : FitsSigned w64 (b +ℤ pos lasts) = omega (arith, signed_arith, day.0, day.1) in
    rw (to_z-of_z fits, cast) (sum, to_z-of_z sum)

few_seconds : (days clock d k : ℕ) → d ≡ days → k ≡ clock → days ≤ 36_600 → clock ≤ 3_162_240_000
    → 86400 * d + k ≤ 10_000_000_000
few_seconds days clock d k e f few short = omega arith

pub overflow_add-result : goal.overflow_add-result
overflow_add-result c =
    let parts = second-parts c.args.start.0 in
    let few = few_seconds c.whole_days.result c.clock.result _ _ c.from.ensures c.from-then-months-eq0.ensures
    c.whole_days.ensures.bound c.clock.ensures.bound in
    (short_sum c.args.start.0 (day_of_second c.args.start.0) (second_of_day c.args.start.0)
    (86400 * c.from.result + c.from-then-months-eq0.result) (search rules) c.requires parts.0 parts.1 few).0

pub returns-then-months-eq0-clause-value : goal.returns-then-months-eq0-clause-value
returns-then-months-eq0-clause-value c =
    let parts = second-parts c.args.start.0 in
    let few = few_seconds c.whole_days.result c.clock.result _ _ c.from.ensures c.from-then-months-eq0.ensures
    c.whole_days.ensures.bound c.clock.ensures.bound in
    let whole = (short_sum c.args.start.0 (day_of_second c.args.start.0) (second_of_day c.args.start.0)
    (86400 * c.from.result + c.from-then-months-eq0.result) (search rules) c.requires parts.0 parts.1 few).1 in
    let none = sym (c.whole_months-months.ensures.value) ∙ c.if-months-eq0.true in
    let is = stop-without_months (duration_parts c.args.duration.now) c.args.start.0 none in
    let days = c.from.ensures ∙ c.whole_days.ensures.value in
    let clock = c.from-then-months-eq0.ensures ∙ c.clock.ensures.value in
    whole ∙ rw (days, clock) (sym is)

pub returns-then-months-eq0-clause-later : goal.returns-then-months-eq0-clause-later
returns-then-months-eq0-clause-later c =
    rw (returns-then-months-eq0-clause-value c) (stop-bound (duration_parts c.args.duration.now) c.args.start.0).0

pub returns-then-months-eq0-clause-within_bound : goal.returns-then-months-eq0-clause-within_bound
returns-then-months-eq0-clause-within_bound c = rw (returns-then-months-eq0-clause-value c)
    (stop-bound (duration_parts c.args.duration.now) c.args.start.0).1

pub returns-then-months-eq0-clause-stop : goal.returns-then-months-eq0-clause-stop
returns-then-months-eq0-clause-stop c =
    rw (returns-then-months-eq0-clause-value c) (stop-is (duration_parts c.args.duration.now) c.args.start.0)
