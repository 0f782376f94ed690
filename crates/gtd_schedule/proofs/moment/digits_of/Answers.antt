-- The table has the two decimal digits of each number below 100 at its place.
use Rattle.gtd_schedule.proofs.Pairs.{pair_at}
use Rattle.gtd_schedule.proofs.moment.digits_of.Goals as goal

pub returns-clause-tens : goal.returns-clause-tens
returns-clause-tens c = (pair_at c.args.value c.requires.small).0

pub returns-clause-ones : goal.returns-clause-ones
returns-clause-ones c = (pair_at c.args.value c.requires.small).1
