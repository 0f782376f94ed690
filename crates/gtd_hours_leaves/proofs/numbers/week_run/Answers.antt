-- From the Monday of the first week on, so many weeks are the weeks of the range; they do not leave the year.
use Rattle.gtd_hours_leaves.proofs.WeekLemmas.{week-run}
use Rattle.gtd_hours_leaves.proofs.numbers.week_run.Goals as goal

pub returns-clause-days : goal.returns-clause-days
returns-clause-days c s =
    week-run _ c.args.clock c.args.first c.args.last (rw c.from.ensures at c.leaf.ensures) c.requires s
