-- Nothing is kept back at first, so what is still to come is the whole difference.
use Rattle.gtd_core.specs.declared.domain.Op.TheVariants.{Minus}
use Rattle.std.proofs.Common.{[], ◌∷◌}
use Rattle.gtd_spans.specs.facts.Combining.{combine-normal}
use Rattle.gtd_spans.proofs.UnionSteps.{union-nil}
use Rattle.gtd_spans.proofs.merge.Merge.beside.Goals as goal

pub returns-clause-meaning : goal.returns-clause-meaning
returns-clause-meaning c = λ l. union-nil _ (combine-normal Minus (c.args.span ∷ []) l)
