-- A run ends on the day before the first that is missing, or on the last day of the calendar where none is.
use Rattle.std.proofs.Common.{rules, FitsSigned, w64, to_z-of_z}
use Rattle.gtd_hours_holidays.proofs.RunFacts.{end_before, end_of_all, missing_late}
use Rattle.gtd_hours_holidays.proofs.runs.last_from.Goals as goal

pub day_before-requires : goal.day_before-requires
day_before-requires c =
    let fits : FitsSigned w64 c.in-Some.after = search rules in
    rw (to_z-of_z fits) (missing_late c.args.days.now c.args.first c.in-Some.after c.requires.first_in c.requires.in_set
    (rw (to_z-of_z c.ranges.first) at c.in-Some.ensures.first))

pub returns-in-Some : goal.returns-in-Some
returns-in-Some c =
    let fits : FitsSigned w64 c.in-Some.after = search rules in
    let fits_last : FitsSigned w64 c.day_before.result = search rules in
    record {
      last = rw (to_z-of_z fits_last) (end_before c.args.days.now c.args.first c.in-Some.after c.day_before.result
          c.requires.in_set (rw (to_z-of_z c.ranges.first) at c.in-Some.ensures.first)
          (rw (to_z-of_z fits) at c.day_before.ensures.before) c.day_before.ensures.near);
    }

pub returns-in-None : goal.returns-in-None
returns-in-None c = record {
  last = end_of_all c.args.days.now c.args.first c.requires.first_in (rw (to_z-of_z c.ranges.first) at c.in-None.ensures.first);
}
