-- A start with nothing but a clock holds, on each day, for so many minutes from that clock on.
use Rattle.gtd_hours_leaves.specs.facts.LeafFacts.{clock-held}
use Rattle.gtd_hours_leaves.proofs.leaves.each_clock.Goals as goal

pub returns-clause-seconds : goal.returns-clause-seconds
returns-clause-seconds c s = clock-held _ c.args.clock c.args.minutes c.leaf.ensures c.requires s
