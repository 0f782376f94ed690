use Rattle.gtd_hours_ranges.proofs.dates.end_in.Goals as goal

pub returns-in-Place-clause-none : goal.returns-in-Place-clause-none
returns-in-Place-clause-none c = rw c.in-Place.is c.place_in.ensures.none
