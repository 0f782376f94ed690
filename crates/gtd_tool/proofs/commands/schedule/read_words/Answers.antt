-- The vehicle type is read before the days, so a fault of the days comes second; without one there is a plan.
use Rattle.std.proofs.Common.{[], ◌∷◌, sym, subst}
use Rattle.std.proofs.lemmas.Result.{err_from_is_err_and}
use Rattle.gtd_tool.specs.Readings.{DatePart, DaysPart, NumberUpToPart}
use Rattle.gtd_tool.specs.Refusals.{IsStopped}
use Rattle.gtd_tool.proofs.LawLemmas.{number_up_to_faultless}
use Rattle.gtd_tool.proofs.PlanLemmas.{schedule_read, stopped_after}
use Rattle.gtd_tool.proofs.commands.schedule.read_words.Goals as goal

pub returns-in_err-horizon : goal.returns-in_err-horizon
returns-in_err-horizon c =
    let p = err_from_is_err_and c.from_residual-in_err-horizon.result c.from_residual-in_err-horizon.ensures.1 in
    let days = DatePart c.args.from.now ∷ DatePart c.args.to.now ∷ DaysPart c.args.from.now c.args.to.now ∷ [] in
    rw (p.1) (stopped_after (NumberUpToPart 255 c.args.vehicle.now) days p.0
    (number_up_to_faultless 255 c.args.vehicle.now c.in_ok-vehicle.vehicle c.in_ok-vehicle.ensures.read)
    (subst (IsStopped days) (sym p.2) c.in_err-horizon.ensures.stopped))

pub returns : goal.returns
returns c = schedule_read c.args.file.now c.args.from.now c.args.to.now c.args.vehicle.now _ c.in_ok-horizon.horizon
    c.in_ok-vehicle.vehicle c.in_ok-horizon.ensures.read c.in_ok-vehicle.ensures.read c.in_ok-file.ensures.kept
