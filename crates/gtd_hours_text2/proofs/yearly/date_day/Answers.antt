use Rattle.std.proofs.Common.{rules, ◌≡◌, ◌∙◌, pos, FitsSigned, to_z, of_z, w64, to_z-of_z}
use Rattle.gtd_hours_text2.proofs.CalendarFacts.{in_calendar}
use Rattle.gtd_hours_text2.proofs.yearly.date_day.Goals as goal

pub returns-clause-near : goal.returns-clause-near
returns-clause-near c =
    let fits : FitsSigned w64 c.in-Some.day = search rules in
    let fits_year : FitsSigned w64 c.from.result = search rules in
    let year : to_z w64 (of_z w64 c.from.result) ≡ pos c.args.year = to_z-of_z fits_year ∙ c.from.ensures in
    rw (to_z-of_z fits) (in_calendar c.in-Some.day (pos c.args.year) c.args.month c.args.day c.requires.year
    (rw year at c.in-Some.ensures.date))
