-- The days of the range that begins in a year lie between its first and its last day.
use Rattle.std.proofs.Common.{rules, FitsSigned, w64, to_z-of_z}
use Rattle.gtd_hours_holidays.specs.Days.{IsIn}
use Rattle.gtd_hours_days.proofs.EasterFacts.{range_added}
use Rattle.gtd_hours_days.proofs.easter_days.add_range_of.Goals as goal

pub returns-clause-added : goal.returns-clause-added
returns-clause-added c =
    let first : FitsSigned w64 c.day_in-first.result = search rules in
    let last : FitsSigned w64 c.day_in-last.result = search rules in
    range_added c.args.years c.args.range.is_over c.args.range.first c.args.range.last c.args.year c.day_in-first.result
    c.day_in-last.result (IsIn c.add_part.new.days) (IsIn c.args.days.now) c.day_in-first.ensures
    (rw c.last_year.ensures at c.day_in-last.ensures)
    (rw (to_z-of_z first, to_z-of_z last) at c.in_ok-add_part.ensures.added)
