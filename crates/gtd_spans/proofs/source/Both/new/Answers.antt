-- The spans to come are those of an intersection, so they hold the seconds that both sources hold.
use Rattle.gtd_core.specs.declared.domain.Op.TheVariants.{Meet}
use Rattle.gtd_spans.specs.facts.Combining.{combine-holds}
use Rattle.gtd_spans.proofs.source.Both.new.Goals as goal

pub returns-clause-seconds : goal.returns-clause-seconds
returns-clause-seconds g c = rw c.new.ensures.list (combine-holds Meet _ _)
