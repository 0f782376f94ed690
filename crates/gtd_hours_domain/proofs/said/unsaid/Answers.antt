-- What was said to be closed stays without the days, and without the spans where these end on a later day.
use Rattle.std.proofs.Common.{◌≡◌, true, false, sym, ◌∙◌}
use Rattle.std.proofs.lemmas.Result.{IfOk-weaker}
use Rattle.gtd_core.specs.Trees.{tree_of}
use Rattle.gtd_hours.specs.Cost.{days_cost, ends_late, rule_cost}
use Rattle.gtd_hours_domain.proofs.CostLemmas.{some-kept, some-unsaid}
use Rattle.gtd_hours_domain.proofs.SaidLemmas.{unsaid-days}
use Rattle.gtd_hours_leaves.specs.facts.LeafFacts.{some-leaf}
use Rattle.gtd_hours_domain.proofs.said.unsaid.Goals as goal

pub returns-then-ends_late-clause-leaves : goal.returns-then-ends_late-clause-leaves
returns-then-ends_late-clause-leaves c =
    let late : ends_late c.args.rule.now.times.items ≡ true =
    rw c.as_slice.ensures.value at (sym c.ends_late.ensures ∙ c.if-ends_late.true) in
    IfOk-weaker c.without_spans.result _ _
    (λ o h. rw (c.in-Some.is, late) (some-unsaid _ _ _ (days_cost c.args.rule.now.kinds.items) (rule_cost c.args.rule.now)
    (some-leaf (tree_of c.in-Some.before)) c.in_ok-kept-in-Some.ensures.leaves h))
    c.without_spans.ensures.leaves

pub returns-else-ends_late-clause-seconds : goal.returns-else-ends_late-clause-seconds
returns-else-ends_late-clause-seconds c s =
    let early : ends_late c.args.rule.now.times.items ≡ false =
    rw c.as_slice.ensures.value at (sym c.ends_late.ensures ∙ c.if-ends_late.false) in
    rw c.in-Some.is (unsaid-days _ _ c.args.rule.now s early (c.in_ok-kept-in-Some.ensures.seconds s))

pub returns-else-ends_late-clause-leaves : goal.returns-else-ends_late-clause-leaves
returns-else-ends_late-clause-leaves c =
    let early : ends_late c.args.rule.now.times.items ≡ false =
    rw c.as_slice.ensures.value at (sym c.ends_late.ensures ∙ c.if-ends_late.false) in
    rw (c.in-Some.is, early) (some-kept _ _ (days_cost c.args.rule.now.kinds.items) (some-leaf (tree_of c.in-Some.before))
    c.in_ok-kept-in-Some.ensures.leaves)
