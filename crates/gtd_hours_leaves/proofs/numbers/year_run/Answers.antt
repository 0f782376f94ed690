-- From 1 January of the first year on, so many years are the years of the range.
use Rattle.gtd_hours_leaves.proofs.YearLemmas.{year-run}
use Rattle.gtd_hours_leaves.proofs.numbers.year_run.Goals as goal

pub returns-clause-days : goal.returns-clause-days
returns-clause-days c s =
    year-run _ c.args.clock c.args.first c.args.last (rw c.from.ensures at c.leaf.ensures) c.requires.run.0 s
