-- Stretches of days from the day that an end is counted on from, in each year.
use Rattle.gtd_core.specs.Trees.{tree_of}
use Rattle.gtd_eval.specs.Membership.{InTree}
use Rattle.gtd_hours_leaves.specs.Leaves.{minutes_of, moved_day}
use Rattle.gtd_hours_selectors.proofs.MovingLemmas.{days-from}
use Rattle.gtd_hours_selectors.proofs.moving.days_from.Goals as goal

pub returns-clause-days : goal.returns-clause-days
returns-clause-days c s =
    days-from (InTree (tree_of c.each_days.result) s) c.end_parts.result c.args.end c.from.result c.args.days
    (moved_day (minutes_of c.args.clock) s) c.from.ensures c.end_parts.ensures.on (c.each_days.ensures.days s)
