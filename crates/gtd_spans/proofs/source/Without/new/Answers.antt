-- The spans to come are those of a difference, so they hold the left source's seconds that the right lacks.
use Rattle.gtd_core.specs.declared.domain.Op.TheVariants.{Minus}
use Rattle.gtd_spans.specs.facts.Combining.{combine-holds}
use Rattle.gtd_spans.proofs.source.Without.new.Goals as goal

pub returns-clause-seconds : goal.returns-clause-seconds
returns-clause-seconds g c = rw c.new.ensures.list (combine-holds Minus _ _)
