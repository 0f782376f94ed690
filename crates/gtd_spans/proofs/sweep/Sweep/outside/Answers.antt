-- A fresh sweep stands for the horizon less its one side, which is normal and holds the other seconds.
use Rattle.gtd_core.specs.Whole.{whole}
use Rattle.gtd_spans.specs.facts.Combining.{combine-normal}
use Rattle.gtd_spans.specs.facts.Whole.{minus-whole}
use Rattle.gtd_spans.proofs.sweep.Sweep.outside.Goals as goal

pub returns-clause-normal : goal.returns-clause-normal
returns-clause-normal c = λ l r. combine-normal _ _ _

pub returns-clause-seconds : goal.returns-clause-seconds
returns-clause-seconds c = λ l r t. rw (c.beside.ensures.meaning l, c.whole.ensures.value)
    (minus-whole (whole c.args.horizon) l t)
