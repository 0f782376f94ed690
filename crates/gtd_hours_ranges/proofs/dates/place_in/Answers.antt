use Rattle.gtd_hours.specs.declared.places.End.TheVariants.{Place}
use Rattle.gtd_hours_days.specs.declared.yearly_day.YearlyDay.TheVariants.{Calendar}
use Rattle.gtd_hours_ranges.specs.Days.{day_of}
use Rattle.gtd_hours_ranges.proofs.DayLemmas.{date-day, unless_some}
use Rattle.gtd_hours_ranges.proofs.dates.place_in.Goals as goal

pub returns-then-is_calendar_year-clause-none : goal.returns-then-is_calendar_year-clause-none
returns-then-is_calendar_year-clause-none c =
    unless_some c.in_year.result c.in_year.ensures.accepted
    (λ no x h. no (day_of x, h.1, date-day (Calendar (Place c.args.place)) c.args.year x h))
