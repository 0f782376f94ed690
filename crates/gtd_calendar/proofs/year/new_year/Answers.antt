-- The first of January has no months before it, so its day is the first of the year.
use Rattle.std.proofs.Common.{rules, ◌∙◌, pos, FitsSigned, w64, to_z-of_z}
use Rattle.gtd_calendar.specs.facts.YearDays.{year_begins}
use Rattle.gtd_calendar.proofs.year.new_year.Goals as goal

pub returns : goal.returns
returns c =
    let fits : FitsSigned w64 c.first_of_month.result = search rules in
    record { day = to_z-of_z fits ∙ c.first_of_month.ensures.day ∙ year_begins (pos c.args.year) }
