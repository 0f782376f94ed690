-- The group's days of one year, cut to the known years, are in the set exactly if no day between the ends is missing.
use Rattle.std.proofs.Common.{rules, FitsSigned, w64, to_z-of_z}
use Rattle.gtd_hours_days.proofs.YearlyFacts.{year_all, year_in}
use Rattle.gtd_hours_days.proofs.yearly.is_in_year.Goals as goal

pub returns : goal.returns
returns c =
    let start : FitsSigned w64 c.start_in-start.result = search rules in
    let first : FitsSigned w64 c.first_day.result = search rules in
    let last : FitsSigned w64 c.last_day.result = search rules in
    let end : FitsSigned w64 c.last_from.result = search rules in
    let from : FitsSigned w64 c.later-from.result = search rules in
    let to : FitsSigned w64 c.earlier-to.result = search rules in
    let is = rw (to_z-of_z from, to_z-of_z to) at c.has_all.ensures in
    let low = rw (to_z-of_z start, to_z-of_z first) at c.later-from.ensures in
    let high = rw (to_z-of_z last, to_z-of_z end, c.last_from.ensures, to_z-of_z start) at c.earlier-to.ensures in
    let some = c.args.group.in_range.1 in (
      (λ yes. year_in c.args.days.now c.args.years c.args.group c.args.year c.start_in-start.result c.later-from.result
          c.earlier-to.result c.first_day.result c.last_day.result c.start_in-start.ensures.date c.first_day.ensures.day
          c.last_day.ensures.day low high some (is.0 yes)),
      (λ each. is.1 (year_all c.args.days.now c.args.years c.args.group c.args.year c.start_in-start.result c.later-from.result
          c.earlier-to.result c.first_day.result c.last_day.result c.start_in-start.ensures.date c.first_day.ensures.day
          c.last_day.ensures.day low high some each)),
    )
