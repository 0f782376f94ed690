-- The end that is computed is the stretch's, and any other end of that stretch equals it.
use Rattle.gtd_calendar.specs.facts.StopLemmas.{stop-is, stop-only}
use Rattle.gtd_calendar.proofs.laws.one_end.Goals as goal

pub returns-clause-has : goal.returns-clause-has
returns-clause-has c = stop-is

pub returns-clause-only : goal.returns-clause-only
returns-clause-only c = stop-only
