-- Each span taken counts one, so more than the allowed number are found exactly if the source has more.
use Rattle.std.proofs.Common.{ap, arith, rules, length}
use Rattle.gtd_picture.proofs.CrowdFacts.{one_taken}
use Rattle.gtd_picture.proofs.crowd.has_too_many.Goals as goal

pub loop-rest-preserved : goal.loop-rest-preserved
loop-rest-preserved g c =
    let i = c.loop-rest.invariant in
    let few = i.few in
    record {
      left = one_taken _ _ _ _ _ c.in-Some.ensures.takes i.left;
      few = omega (arith, few);
    }

pub returns-then-taken-eq-MOST_STRETCHES : goal.returns-then-taken-eq-MOST_STRETCHES
returns-then-taken-eq-MOST_STRETCHES g c =
    let i = c.loop-rest.invariant in
    let one = one_taken _ _ _ _ _ c.in-Some.ensures.takes i.left in
    record { many = ((λ t. omega (arith, one)), (λ m. search rules)) }

pub returns : goal.returns
returns g c =
    let i = c.loop-rest.invariant in
    let none = ap length c.in_default.ensures.takes.0 in
    let few = i.few in
    let left = i.left in
    record { many = ((λ t. absurd (search rules)), (λ m. absurd (omega (arith, none, few, left, m)))) }
