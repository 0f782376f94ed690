-- The sort is stable, so the tags of a mode stay in their order.
use Rattle.std.proofs.Common.{rules}
use Rattle.std.proofs.lemmas.List.Sorted.{IsNonDecreasingBy-from_sort_by_key}
use Rattle.gtd_conditional_steps.specs.declared.tag.Tag.{Tag}
use Rattle.gtd_conditional_steps.proofs.OrderFacts.{sorted_say_same}
use Rattle.gtd_conditional_steps.proofs.modes.put_in_order.Goals as goal

pub returns-clause-order : goal.returns-clause-order
returns-clause-order c =
    IsNonDecreasingBy-from_sort_by_key (λ (t : Tag). t.mode) _ c.in_ok-sort_by_key.ensures.sorted (λ a r q k. search rules)

pub returns-clause-same : goal.returns-clause-same
returns-clause-same c = sorted_say_same _ _ c.in_ok-sort_by_key.ensures.stable (λ a r q k. search rules)
