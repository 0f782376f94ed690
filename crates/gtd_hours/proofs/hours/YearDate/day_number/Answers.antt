-- The days of dates from 1800 to 2799 are numbers between -70000 and 310000.
use Rattle.std.proofs.Common.{◌≡◌, ◌∙◌, pos, rules, to_z, of_z, w64, to_z-of_z, FitsSigned}
use Rattle.gtd_hours.proofs.DateFacts.{date-small}
use Rattle.gtd_hours.proofs.hours.YearDate.day_number.Goals as goal

pub returns-clause-range : goal.returns-clause-range
returns-clause-range c =
    let fits : FitsSigned w64 c.from.result = search rules in
    let fits_day : FitsSigned w64 c.in-Some.day = search rules in
    let year : to_z w64 (of_z w64 c.from.result) ≡ pos c.args.self.year = to_z-of_z fits ∙ c.from.ensures in
    let day : to_z w64 (of_z w64 c.in-Some.day) ≡ c.in-Some.day = to_z-of_z fits_day in
    rw day (date-small c.in-Some.day (pos c.args.self.year) c.args.self.month c.args.self.day c.args.self.is_date.0
    (rw year at c.in-Some.ensures.date))
