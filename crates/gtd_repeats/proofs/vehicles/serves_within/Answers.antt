-- At each turn the other has each of the types passed that the one has.
use Rattle.std.proofs.Common.{◌≡◌, arith, rules, subst, ℕ}
use Rattle.gtd_rows.specs.Serving.{Serves}
use Rattle.gtd_repeats.proofs.ListFacts.{by_lt}
use Rattle.gtd_repeats.proofs.vehicles.serves_within.Goals as goal

pub loop-vehicle-preserved : goal.loop-vehicle-preserved
loop-vehicle-preserved c = λ v some before serves.
    let here = c.loop-vehicle.vehicle in
    let also = c.if-not-serves_also.ensures.also.0 (search rules) in
    by_lt v here
    (λ lt. c.loop-vehicle.invariant v some lt serves)
    (λ ge.
    let e : here ≡ v = omega (arith, before, ge) in
    subst (λ (n : ℕ). Serves c.args.vehicles.now n → Serves c.args.other.now n) e also serves)
