-- The row at the place leads on as each row does.
use Rattle.std.proofs.Common.{rules, FitsSigned, w64, to_z-of_z}
use Rattle.gtd_hours_holidays.proofs.HolidayFacts.{covered_more}
use Rattle.gtd_hours_holidays.proofs.holidays.after_place.Goals as goal

pub returns : goal.returns
returns c = λ day so_far.
    let fits : FitsSigned w64 c.after_row.result = search rules in
    let next = rw (to_z-of_z c.ranges.until) at c.after_row.ensures in
    rw (to_z-of_z fits) (covered_more c.args.kind c.args.rows.now day c.args.until c.args.place c.index-rows-place.result
    c.if-place-rows.false c.index-rows-place.is so_far c.after_row.result next)
