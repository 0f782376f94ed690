-- The first day of the set from a day on begins the next run.
use Rattle.std.proofs.Common.{rules, FitsSigned, w64, to_z-of_z}
use Rattle.gtd_hours_holidays.proofs.RunFacts.{next_is}
use Rattle.gtd_hours_holidays.proofs.runs.next_run.Goals as goal

pub returns-in-Some : goal.returns-in-Some
returns-in-Some c =
    let fits : FitsSigned w64 c.in-Some.first = search rules in
    next_is c.args.days.now c.args.from c.in-Some.first c.run_from.result
    (rw (to_z-of_z c.ranges.from) at c.in-Some.ensures.first) (rw (to_z-of_z fits) at c.run_from.ensures.first)
    (rw (to_z-of_z fits) at c.run_from.ensures.last)
