-- The week that is computed is the day's, and any other week of that day equals it.
use Rattle.gtd_calendar.specs.facts.WeekLemmas.{week_of-is, week_of-only}
use Rattle.gtd_calendar.proofs.laws.one_week.Goals as goal

pub returns-clause-has : goal.returns-clause-has
returns-clause-has c = week_of-is

pub returns-clause-only : goal.returns-clause-only
returns-clause-only c = week_of-only
