-- Where something was, the spans are taken away.
use Rattle.gtd_core.specs.Trees.{tree_of}
use Rattle.gtd_hours.specs.Cost.{rule_cost}
use Rattle.gtd_hours_domain.proofs.CostLemmas.{some-open}
use Rattle.gtd_hours_leaves.specs.facts.LeafFacts.{some-leaf}
use Rattle.gtd_hours_domain.proofs.said.without_spans.Goals as goal

pub returns-in_ok-expr-in-Some-clause-leaves : goal.returns-in_ok-expr-in-Some-clause-leaves
returns-in_ok-expr-in-Some-clause-leaves c =
    rw c.in-Some.is (some-open _ _ (rule_cost c.args.rule.now) (some-leaf (tree_of c.in-Some.before))
    (rw c.in_ok-spans-in-Some.ensures.leaves at c.in_ok-expr-in-Some.ensures.leaves))
