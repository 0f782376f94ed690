-- A day from 1 January of the first year to 31 December of the last is a day of the years, and no other is.
use Rattle.std.proofs.Common.{rules, FitsSigned, w64, to_z-of_z}
use Rattle.gtd_hours_days.proofs.AdditionFacts.{between_years}
use Rattle.gtd_hours_days.proofs.additions.is_of_years.Goals as goal

pub returns : goal.returns
returns c =
    let first : FitsSigned w64 c.first_day.result = search rules in
    let last : FitsSigned w64 c.last_day.result = search rules in
    between_years c.args.years c.args.day c.first_day.result c.last_day.result c.is_between.result
    (rw (to_z-of_z c.ranges.day, to_z-of_z first, to_z-of_z last) at c.is_between.ensures) c.first_day.ensures.day
    c.last_day.ensures.day
