-- A fresh sweep stands for the whole combination, which is normal and holds what the operator says.
use Rattle.gtd_spans.specs.facts.Combining.{combine-normal, combine-holds}
use Rattle.gtd_spans.proofs.sweep.Sweep.new.Goals as goal

pub returns-clause-normal : goal.returns-clause-normal
returns-clause-normal c = λ l r. combine-normal _ _ _

pub returns-clause-seconds : goal.returns-clause-seconds
returns-clause-seconds c = λ l r t. rw (c.new.ensures.meaning l r) (combine-holds c.args.op l r t)
