-- A day is held exactly if the start holds on it, or on a day before it by fewer days than the stretch has.
use Rattle.gtd_hours_leaves.specs.facts.LeafFacts.{each-days}
use Rattle.gtd_hours_leaves.proofs.leaves.each_days.Goals as goal

pub returns-clause-days : goal.returns-clause-days
returns-clause-days c s = each-days _ c.args.parts c.args.clock c.args.days c.leaf.ensures s
