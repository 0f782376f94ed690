use Rattle.std.proofs.Common.{◌↔◌, List, subst}
use Rattle.std.specs.List.{Contains}
use Rattle.gtd_hours.specs.declared.hours.Rule.{Rule}
use Rattle.gtd_hours_hidden.specs.Hides.{Hides}
use Rattle.gtd_hours_hidden.proofs.SortedFacts.{in-order, same-numbers}
use Rattle.gtd_hours_hidden.proofs.rules.hiding_rules.Goals as goal

pub returns-clause-exact : goal.returns-clause-exact
returns-clause-exact c =
    λ k. let one = same-numbers _ _ _ c.sort_unstable.ensures.permutation c.dedup.ensures.filtered k in
    let all = subst (λ (rules : List Rule). Contains c.in_ok-places.places.items k ↔ Hides rules k) c.as_slice.ensures.value
    (c.in_ok-places.ensures k) in
    (λ h. all.0 (one.0 h), λ h. one.1 (all.1 h))

pub returns-clause-in_order : goal.returns-clause-in_order
returns-clause-in_order c = in-order _ _ c.sort_unstable.ensures.sorted c.dedup.ensures.filtered
