-- Stretches as they are defined and stretches whose starts and ends are computed hold the same seconds.
use Rattle.gtd_recur.specs.facts.MembershipLemmas.{in_stretches-computed}
use Rattle.gtd_recur.proofs.laws.membership.Goals as goal

pub returns : goal.returns
returns c = record { computed = in_stretches-computed }
