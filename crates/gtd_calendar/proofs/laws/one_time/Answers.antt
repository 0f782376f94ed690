-- The time that is computed is the second's, and any other time of that second equals it.
use Rattle.gtd_calendar.specs.facts.TimeLemmas.{time_of-is, time_of-only}
use Rattle.gtd_calendar.proofs.laws.one_time.Goals as goal

pub returns-clause-has : goal.returns-clause-has
returns-clause-has c = time_of-is

pub returns-clause-only : goal.returns-clause-only
returns-clause-only c = time_of-only
