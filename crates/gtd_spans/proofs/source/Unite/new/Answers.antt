-- The spans to come are those of a union, so they hold the seconds that either source holds.
use Rattle.gtd_core.specs.declared.domain.Op.TheVariants.{Union}
use Rattle.gtd_spans.specs.facts.Combining.{combine-holds}
use Rattle.gtd_spans.proofs.source.Unite.new.Goals as goal

pub returns-clause-seconds : goal.returns-clause-seconds
returns-clause-seconds g c = rw c.new.ensures.list (combine-holds Union _ _)
