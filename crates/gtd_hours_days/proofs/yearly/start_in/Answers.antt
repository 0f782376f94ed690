-- The first day of a group in a year near the known ones is a day of the calendar.
use Rattle.std.proofs.Common.{rules, ◌≡◌, ◌∙◌, arith, pos, FitsSigned, to_z, of_z, w64, to_z-of_z}
use Rattle.gtd_hours_days.proofs.DateFacts.{in_calendar}
use Rattle.gtd_hours_days.proofs.yearly.start_in.Goals as goal

pub returns-clause-near : goal.returns-clause-near
returns-clause-near c =
    let fits : FitsSigned w64 c.in-Some.day = search rules in
    let fits_year : FitsSigned w64 c.from.result = search rules in
    let year : to_z w64 (of_z w64 c.from.result) ≡ pos c.args.year = to_z-of_z fits_year ∙ c.from.ensures in
    let low = c.requires.0 in
    let high = c.requires.1 in
    rw (to_z-of_z fits) (in_calendar c.in-Some.day c.args.year c.args.group.month c.args.group.day (omega (arith, low))
    (omega (arith, high)) (rw year at c.in-Some.ensures.date))
