-- From the second's day to the end of the horizon, or to eight days later if that is before: a horizon in any case, and
-- longer than a week after the second.
use Rattle.std.proofs.Common.{arith, rules, FitsSigned, to_z-of_z, w64, ◌∙◌}
use Rattle.std.specs.Prelude.{IsTrue}
use Rattle.std.proofs.lemmas.Int.{ints}
use Rattle.gtd_eval.proofs.StayDays.{no_fault, week_on}
use Rattle.gtd_eval.proofs.stay.days_to_look.Goals as goal

pub unreachable-requires : goal.unreachable-requires
unreachable-requires c =
    let h = c.args.horizon in
    let inside = c.requires.inside in
    let on = c.day-day.ensures.on_day in
    let day : FitsSigned w64 c.day-day.result = search rules in
    let end : FitsSigned w64 c.look_end.result = search rules in
    let last : FitsSigned w64 c.to_day.result = search rules in
    let to = c.to_day.ensures.value in
    let later = rw (to_z-of_z day) at c.look_end.ensures.later in
    let within = rw (to_z-of_z last, to) at c.look_end.ensures.within in
    no_fault c.in-Err.field-0 h.from_day h.to_day c.day-day.result c.look_end.result
    (rw (to_z-of_z day, to_z-of_z end) at c.in-Err.ensures.horizon)
    h.not_early (omega (arith, ints, inside.0, on.1)) later within h.not_late h.not_long

pub returns-clause-until : goal.returns-clause-until
returns-clause-until c =
    let day : FitsSigned w64 c.day-day.result = search rules in
    let end : FitsSigned w64 c.look_end.result = search rules in
    let last : FitsSigned w64 c.to_day.result = search rules in
    week_on (IsTrue c.args.weekly) c.args.second.0 c.day-day.result c.look_end.result c.args.horizon.to_day
    c.in-Ok.days.to_day c.day-day.ensures.on_day.0
    c.day-day.ensures.on_day.1 (c.in-Ok.ensures.horizon.1 ∙ to_z-of_z end)
    (rw (to_z-of_z day, to_z-of_z last, c.to_day.ensures.value) at c.look_end.ensures.end)
