-- Reading what was written gives the day or the second back, as long as it is in the range that is read.
use Rattle.gtd_calendar.proofs.MomentLemmas.{stamp_in-again}
use Rattle.gtd_calendar.proofs.StampLemmas.{date_in-again}
use Rattle.gtd_calendar.proofs.laws.read_again.Goals as goal

pub returns-clause-date : goal.returns-clause-date
returns-clause-date c = date_in-again

pub returns-clause-stamp : goal.returns-clause-stamp
returns-clause-stamp c = stamp_in-again
