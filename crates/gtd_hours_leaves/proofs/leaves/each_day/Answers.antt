-- Stretches of one day are the days of the start themselves.
use Rattle.gtd_hours_leaves.specs.Leaves.{minutes_of, moved_day}
use Rattle.gtd_hours_leaves.specs.facts.LeafFacts.{each-day}
use Rattle.gtd_hours_leaves.proofs.leaves.each_day.Goals as goal

pub returns-clause-days : goal.returns-clause-days
returns-clause-days c s =
    each-day _ c.args.parts (moved_day (minutes_of c.args.clock) s) (c.each_days.ensures.days s)
