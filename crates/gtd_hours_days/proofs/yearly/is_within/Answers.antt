-- A run is within the years exactly if it neither begins before their first day nor ends after their last.
use Rattle.std.proofs.Common.{rules, FitsSigned, w64, to_z-of_z}
use Rattle.gtd_hours_days.proofs.YearlyFacts.{between}
use Rattle.gtd_hours_days.proofs.yearly.is_within.Goals as goal

pub returns : goal.returns
returns c =
    let first : FitsSigned w64 c.first_day.result = search rules in
    let last : FitsSigned w64 c.last_day.result = search rules in
    between c.args.years c.args.run c.first_day.result c.last_day.result c.is_between.result
    (rw (to_z-of_z first, to_z-of_z last) at c.is_between.ensures) c.first_day.ensures.day c.last_day.ensures.day
