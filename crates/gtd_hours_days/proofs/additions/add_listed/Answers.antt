-- Each form of selector adds its own days: public holidays with their offset, school holidays without, and days of Easter.
use Rattle.gtd_hours_days.proofs.additions.add_listed.Goals as goal

pub returns-in-Public-clause-added : goal.returns-in-Public-clause-added
returns-in-Public-clause-added c = rw c.in-Public.is c.add_holidays.ensures.added

pub returns-in-School-clause-added : goal.returns-in-School-clause-added
returns-in-School-clause-added c = rw c.in-School.is c.add_school.ensures.added

pub returns-in-Easter-clause-added : goal.returns-in-Easter-clause-added
returns-in-Easter-clause-added c = rw c.in-Easter.is c.add_easter_days.ensures.added
