-- A row of the kind adds its days to the set, and the set grows by exactly those.
use Rattle.std.proofs.Common.{rules, FitsSigned, w64, to_z-of_z}
use Rattle.gtd_hours_holidays.proofs.HolidayFacts.{row_added}
use Rattle.gtd_hours_holidays.proofs.holidays.add_row.Goals as goal

pub returns-in_ok-add-clause-added : goal.returns-in_ok-add-clause-added
returns-in_ok-add-clause-added c =
    let first : FitsSigned w64 c.args.row.now.first = search rules in
    let last : FitsSigned w64 c.args.row.now.last = search rules in
    row_added c.args.kind c.args.covers c.args.days.now c.add.new.self c.args.row.now
    (c.says.ensures.0 c.if-says.true) (rw (to_z-of_z first, to_z-of_z last) at c.in_ok-add.ensures.added)
