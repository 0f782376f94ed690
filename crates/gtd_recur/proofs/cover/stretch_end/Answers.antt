-- Either a stretch of the second's own day holds it, or one of the days of the lookback: a stretch from a day before
-- those is over by then.
use Rattle.std.proofs.Common.{rules, arith, refl, ◌≡◌, ◌∙◌, pos, ◌-ℤ◌, FitsSigned, to_z, of_z, to_z-of_z, w64}
use Rattle.gtd_calendar.specs.facts.Signed.{signed_arith}
use Rattle.gtd_core.specs.Seconds.{day_of_second}
use Rattle.gtd_core.specs.Parts.{start_parts, duration_parts}
use Rattle.gtd_recur.specs.Changes.{IsStretchEnd}
use Rattle.gtd_recur.proofs.CoverLemmas.{horizon-day, latest_today, or-none}
use Rattle.gtd_recur.proofs.LookLemmas.{held-anywhere}
use Rattle.gtd_recur.proofs.cover.stretch_end.Goals as goal

pub end_from_day-requires-clause-latest : goal.end_from_day-requires-clause-latest
end_from_day-requires-clause-latest c =
    let fits : FitsSigned w64 c.day-today.result = search rules in
    let today : to_z w64 (of_z w64 c.day-today.result) ≡ day_of_second c.args.second.0 =
    to_z-of_z fits ∙ c.day-today.ensures.value in
    rw (today) (latest_today c.parts-start.result c.args.second.0 c.latest_begin-latest.result
    (rw (c.second_of_day.ensures.value) at c.latest_begin-latest.ensures))

pub returns-in-Some : goal.returns-in-Some
returns-in-Some c = record { end = rw (c.parts-start.ensures.value) at c.in-Some.ensures.end }

pub returns-then-ends_on_its_day : goal.returns-then-ends_on_its_day
returns-then-ends_on_its_day c =
    let p = start_parts c.args.basic.now.start in
    let q = duration_parts c.args.basic.now.duration in
    let fits : FitsSigned w64 c.day-today.result = search rules in
    let today : to_z w64 (of_z w64 c.day-today.result) ≡ day_of_second c.args.second.0 =
    to_z-of_z fits ∙ c.day-today.ensures.value in
    let here = rw (c.parts-start.ensures.value, today) at c.in_default.ensures.end in
    let past = rw (c.parts-start.ensures.value) at c.ends_on_its_day.ensures.past in
    record {
      end = λ member. past c.if-ends_on_its_day.true _ c.args.second.0
          (held-anywhere p q _ c.args.second.0 refl member here);
    }

pub returns : goal.returns
returns c =
    let p = start_parts c.args.basic.now.start in
    let q = duration_parts c.args.basic.now.duration in
    let fits : FitsSigned w64 c.day-today.result = search rules in
    let today : to_z w64 (of_z w64 c.day-today.result) ≡ day_of_second c.args.second.0 =
    to_z-of_z fits ∙ c.day-today.ensures.value in
    let bound = c.lookback.ensures.bound in
    let near = horizon-day c.args.second.0 c.requires.horizon in
    let is = c.day-today.ensures.value in
    let low : to_z w64 (of_z w64 (to_z w64 (of_z w64 c.day-today.result) -ℤ to_z w64 (of_z w64 c.from.result)))
    ≡ day_of_second c.args.second.0 -ℤ pos c.lookback.result = omega (arith, signed_arith, near.0, near.1, is, bound) in
    let here = rw (c.parts-start.ensures.value, today) at c.in_default.ensures.end in
    let before = rw (c.parts-start.ensures.value, low, today, c.lookback.ensures.value) at c.end_from_before.ensures.end in
    record {
      end = or-none (λ e. IsStretchEnd p q c.args.second.0 e.0) c.end_from_before.result
          (λ none member. none (held-anywhere p q _ c.args.second.0 refl member here)) before;
    }
