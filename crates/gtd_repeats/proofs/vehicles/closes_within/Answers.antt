-- Of one direction and of both it is decided case by case which are among the others.
use Rattle.std.proofs.Common.{◌≡◌, rules}
use Rattle.gtd_rows.specs.declared.direction.Closed.TheVariants.{One, Both}
use Rattle.gtd_repeats.proofs.TextFacts.{both_in_one, one_in_one}
use Rattle.gtd_repeats.proofs.vehicles.closes_within.Goals as goal

pub returns-in-Both-closed : goal.returns-in-Both-closed
returns-in-Both-closed c =
    let one = c.in-One.is in
    let both = c.in-Both-closed.is in
    let e : c.args.other ≡ One c.in-One.only = cc in
    let f : c.args.closed ≡ Both = cc in
    record {
      within = rw (e, f) ((λ t. absurd (search (rules, t))), (λ h. absurd (both_in_one c.in-One.only h)));
    }

pub returns-in-One-closed : goal.returns-in-One-closed
returns-in-One-closed c =
    let one = c.in-One.is in
    let other = c.in-One-closed.is in
    let e : c.args.other ≡ One c.in-One.only = cc in
    let f : c.args.closed ≡ One c.in-One-closed.direction = cc in
    let same = c.is_same_direction.ensures.same in
    let h = one_in_one c.in-One-closed.direction c.in-One.only in
    record { within = rw (e, f) ((λ t. h.1 (same.0 t)), (λ k. same.1 (h.0 k))) }
