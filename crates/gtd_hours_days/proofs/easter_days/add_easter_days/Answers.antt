-- Each form of days of Easter adds its own days.
use Rattle.gtd_hours_days.proofs.easter_days.add_easter_days.Goals as goal

pub returns-in-Day-clause-added : goal.returns-in-Day-clause-added
returns-in-Day-clause-added c = rw c.in-Day.is c.add_easter.ensures.added

pub returns-in-Range-clause-added : goal.returns-in-Range-clause-added
returns-in-Range-clause-added c = rw c.in-Range.is c.add_range.ensures.added
