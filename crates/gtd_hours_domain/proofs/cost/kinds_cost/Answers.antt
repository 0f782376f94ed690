-- Where no kind is left, the total is that of all kinds, with at least one basic domain for each.
use Rattle.std.proofs.Common.{◌≡◌, [], length, rules}
use Rattle.gtd_hours_domain.proofs.CostLemmas.{done, nothing-left}
use Rattle.gtd_hours_domain.proofs.cost.kinds_cost.Goals as goal

pub returns : goal.returns
returns c =
    let none : c.loop-kind.rest.now ≡ [] = nothing-left _ (let k : length c.loop-kind.rest.now ≡ 0 = search rules in k) in
    done _ _ c.loop-kind.invariant.0 (rw none at c.loop-kind.invariant.1)
