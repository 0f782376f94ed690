use Rattle.gtd_hours_ranges.proofs.DayLemmas.{no_easter, no_place}
use Rattle.gtd_hours_ranges.proofs.ends.end_of.Goals as goal

pub returns-in-None-place_of-clause-none : goal.returns-in-None-place_of-clause-none
returns-in-None-place_of-clause-none c =
    rw c.in-Place.is (no_place c.in-Place.place c.in-Place.days c.in-Place.is_before c.in-None-place_of.ensures.none)

pub returns-in-None-offset_of-clause-none : goal.returns-in-None-offset_of-clause-none
returns-in-None-offset_of-clause-none c =
    rw c.in-Easter.is (no_easter c.in-Easter.days c.in-Easter.is_before c.in-Easter.from c.in-None-offset_of.ensures.none)
