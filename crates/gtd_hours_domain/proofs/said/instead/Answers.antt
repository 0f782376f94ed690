-- What was there stays without the days, and the spans are added.
use Rattle.std.proofs.lemmas.Result.{IfOk-weaker}
use Rattle.gtd_core.specs.Trees.{tree_of}
use Rattle.gtd_hours.specs.Cost.{days_cost, rule_cost}
use Rattle.gtd_hours_domain.proofs.CostLemmas.{some-instead}
use Rattle.gtd_hours_leaves.specs.facts.LeafFacts.{some-leaf}
use Rattle.gtd_hours_domain.proofs.said.instead.Goals as goal

pub returns-in_ok-kept-in-Some-clause-leaves : goal.returns-in_ok-kept-in-Some-clause-leaves
returns-in_ok-kept-in-Some-clause-leaves c =
    IfOk-weaker c.with_spans-in-Some.result _ _
    (λ o h. rw c.in-Some.is (some-instead _ _ (days_cost c.args.rule.now.kinds.items) (rule_cost c.args.rule.now)
    (some-leaf (tree_of c.in-Some.before)) (rw c.in_ok-kept-in-Some.ensures.leaves at h)))
    c.with_spans-in-Some.ensures.leaves
