-- Nothing is gathered yet.
use Rattle.gtd_gathered.proofs.GatheringLemmas.{none_gathered}
use Rattle.gtd_gathered.proofs.gathered.Gathered.new.Goals as goal

pub returns-clause-taken : goal.returns-clause-taken
returns-clause-taken g c = none_gathered (g.O.Output.taken c.args.inner)
