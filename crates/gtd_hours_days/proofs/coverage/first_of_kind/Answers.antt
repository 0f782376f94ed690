-- The first day of the years that is not covered, found between their first and last day; if none is, all are covered.
use Rattle.std.proofs.Common.{rules, FitsSigned, w64, to_z-of_z}
use Rattle.gtd_hours_days.proofs.CoverageFacts.{covers, uncovered}
use Rattle.gtd_hours_days.proofs.coverage.first_of_kind.Goals as goal

pub returns-in-Some : goal.returns-in-Some
returns-in-Some c =
    let first : FitsSigned w64 c.first_day.result = search rules in
    let last : FitsSigned w64 c.last_day.result = search rules in
    let day : FitsSigned w64 c.in-Some.day = search rules in
    rw (to_z-of_z day) (uncovered c.args.holidays.now.rows.items c.args.years c.args.kind c.first_day.result c.last_day.result
    c.first_day.ensures.day c.last_day.ensures.day c.in-Some.day
    (rw (to_z-of_z first, to_z-of_z last, c.in-Some.is) at c.first_uncovered.ensures.first))

pub returns-in-None : goal.returns-in-None
returns-in-None c =
    let first : FitsSigned w64 c.first_day.result = search rules in
    let last : FitsSigned w64 c.last_day.result = search rules in
    covers c.args.holidays.now.rows.items c.args.years c.args.kind c.first_day.result c.last_day.result
    c.first_day.ensures.day c.last_day.ensures.day
    (rw (to_z-of_z first, to_z-of_z last, c.in-None.is) at c.first_uncovered.ensures.first)
