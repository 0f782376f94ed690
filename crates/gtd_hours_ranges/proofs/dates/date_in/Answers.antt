use Rattle.gtd_hours_ranges.proofs.dates.date_in.Goals as goal

pub returns-in-Easter-clause-none : goal.returns-in-Easter-clause-none
returns-in-Easter-clause-none c = rw c.in-Easter.is c.easter_in.ensures.none
