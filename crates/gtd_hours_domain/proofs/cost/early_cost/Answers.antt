-- Where no range is left, one basic domain has been counted for each range of times that ends on its day.
use Rattle.std.proofs.Common.{◌≡◌, [], length, rules}
use Rattle.gtd_hours_domain.proofs.CostLemmas.{done, nothing-left}
use Rattle.gtd_hours_domain.proofs.cost.early_cost.Goals as goal

pub returns : goal.returns
returns c =
    let none : c.loop-time.rest.now ≡ [] = nothing-left _ (let k : length c.loop-time.rest.now ≡ 0 = search rules in k) in
    done _ _ c.loop-time.invariant.0 (rw none at c.loop-time.invariant.1)
