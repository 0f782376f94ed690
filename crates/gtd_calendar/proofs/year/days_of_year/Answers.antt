-- The days from one New Year to the next are within the bounds of a horizon, so none is refused.
use Rattle.std.proofs.Common.{rules, ◌≡◌, ◌∙◌, pos, FitsSigned, to_z, of_z, w64, to_z-of_z, ◌+◌}
use Rattle.gtd_calendar.specs.Calendar.{first_day}
use Rattle.gtd_calendar.specs.facts.YearDays.{next_year, no_fault, year_horizon}
use Rattle.gtd_calendar.proofs.year.days_of_year.Goals as goal

pub unreachable-requires : goal.unreachable-requires
unreachable-requires c =
    let year = c.args.year in
    let first_fits : FitsSigned w64 c.new_year.result = search rules in
    let next_fits : FitsSigned w64 c.new_year-2.result = search rules in
    let first : to_z w64 (of_z w64 c.new_year.result) ≡ first_day (pos year) = to_z-of_z first_fits ∙ c.new_year.ensures.day in
    let next : to_z w64 (of_z w64 c.new_year-2.result) ≡ first_day (pos (year + 1)) =
    to_z-of_z next_fits ∙ c.new_year-2.ensures.day in
    no_fault c.in-Err.field-0 _ _ (rw (first, next) (year_horizon year c.requires.year)) c.in-Err.ensures.horizon

pub returns-clause-next : goal.returns-clause-next
returns-clause-next c =
    let fits : FitsSigned w64 c.new_year-2.result = search rules in
    c.in-Ok.ensures.horizon.1 ∙ to_z-of_z fits ∙ c.new_year-2.ensures.day ∙ next_year c.args.year
