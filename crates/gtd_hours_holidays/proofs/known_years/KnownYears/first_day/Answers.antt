-- 1 January of the first year begins the years, and is in the calendar.
use Rattle.std.proofs.Common.{rules, ◌≡◌, ◌∙◌, ap, arith, ℤ, pos, FitsSigned, to_z, of_z, w64, to_z-of_z}
use Rattle.gtd_calendar.specs.Calendar.{day_number}
use Rattle.gtd_hours_holidays.proofs.DateFacts.{calendar_year, in_calendar}
use Rattle.gtd_hours_holidays.proofs.YearFacts.{year_starts}
use Rattle.gtd_hours_holidays.proofs.known_years.KnownYears.first_day.Goals as goal

pub returns-clause-day : goal.returns-clause-day
returns-clause-day c =
    let fits : FitsSigned w64 c.in-Some.day = search rules in
    let fits_year : FitsSigned w64 c.from.result = search rules in
    let year : to_z w64 (of_z w64 c.from.result) ≡ pos c.args.self.first = to_z-of_z fits_year ∙ c.from.ensures in
    let is = to_z-of_z fits ∙ c.in-Some.ensures.value ∙ ap (λ (y : ℤ). day_number y 1 1) year in
    is ∙ year_starts c.args.self.first

pub returns-clause-near : goal.returns-clause-near
returns-clause-near c =
    let fits : FitsSigned w64 c.in-Some.day = search rules in
    let fits_year : FitsSigned w64 c.from.result = search rules in
    let year : to_z w64 (of_z w64 c.from.result) ≡ pos c.args.self.first = to_z-of_z fits_year ∙ c.from.ensures in
    let range = c.args.self.in_range in
    let low = range.0 in
    let order = range.1 in
    let high = range.2 in
    rw (to_z-of_z fits) (in_calendar c.in-Some.day (pos c.args.self.first) 1 1
    (calendar_year c.args.self.first (omega (arith, low, order)) (omega (arith, order, high)))
    (rw year at c.in-Some.ensures.date))
