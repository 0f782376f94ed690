-- Stretches of months from the day that an end is counted on from, in each year.
use Rattle.gtd_core.specs.Trees.{tree_of}
use Rattle.gtd_hours_selectors.proofs.MovingLemmas.{months-from}
use Rattle.gtd_hours_selectors.proofs.moving.months_from.Goals as goal

pub returns-clause-days : goal.returns-clause-days
returns-clause-days c s =
    months-from (tree_of c.leaf.result) c.end_parts.result c.args.clock c.args.end c.from.result c.args.months c.from.ensures
    c.leaf.ensures c.end_parts.ensures.on s
