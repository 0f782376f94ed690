-- Matching days, met with the minutes of ranges that end on their day, are the spans of these ranges.
use Rattle.gtd_core.specs.Trees.{tree_of}
use Rattle.gtd_hours_domain.proofs.CostLemmas.{some-early}
use Rattle.gtd_hours_leaves.specs.facts.LeafFacts.{some-leaf}
use Rattle.gtd_hours_domain.proofs.SpanLemmas.{early-days}
use Rattle.gtd_hours_domain.proofs.spans.early_spans.Goals as goal

pub returns-in_ok-expr-in-Some-clause-seconds : goal.returns-in_ok-expr-in-Some-clause-seconds
returns-in_ok-expr-in-Some-clause-seconds c s =
    early-days _ _ _ c.args.kinds.now c.args.times.now _ s c.clock_at.ensures (c.in_ok-days-in-Some.ensures.days s)
    (rw c.in-Some.is at (c.in_ok-clocks.ensures.seconds s)) (c.in_ok-expr-in-Some.ensures.seconds s)

pub returns-in_ok-expr-in-Some-clause-leaves : goal.returns-in_ok-expr-in-Some-clause-leaves
returns-in_ok-expr-in-Some-clause-leaves c =
    some-early _ _ _ _ (some-leaf (tree_of c.in-Some.minutes)) (rw c.in-Some.is at c.in_ok-clocks.ensures.leaves)
    (rw c.in_ok-days-in-Some.ensures.leaves at c.in_ok-expr-in-Some.ensures.leaves)
