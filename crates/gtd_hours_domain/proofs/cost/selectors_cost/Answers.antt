-- Where no selector is left, the total is the sum over all selectors, up to `u32::MAX`.
use Rattle.std.proofs.Common.{◌≡◌, [], length, rules}
use Rattle.gtd_hours_domain.proofs.CostLemmas.{done, nothing-left}
use Rattle.gtd_hours_domain.proofs.cost.selectors_cost.Goals as goal

pub returns : goal.returns
returns c =
    let none : c.loop-selector.rest.now ≡ [] = nothing-left _ (let k : length c.loop-selector.rest.now ≡ 0 = search rules in k) in
    done _ _ c.loop-selector.invariant.0 (rw none at c.loop-selector.invariant.1)
