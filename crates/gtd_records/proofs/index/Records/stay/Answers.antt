-- The union of the records passed stays as it is as long as the stay so far says; a repeated record changes nothing.
use Rattle.std.proofs.Common.{sym, arith, rules}
use Rattle.gtd_records.proofs.StayFacts.{all_stay, skipped, taken}
use Rattle.gtd_records.proofs.FoundPlaces.{nowhere, places_kept, repeats_kept}
use Rattle.gtd_records.proofs.index.Records.stay.Goals as goal
use Rattle.gtd_records.proofs.index.Records.stay.Goals.{then-adds, else-adds}

pub index-restriction-requires : goal.index-restriction-requires
index-restriction-requires c =
    let part = places_kept _ _ _ _ c.self.view_is c.places_of_element-places.ensures.places in
    omega (arith, (part.sound _ nowhere c.loop-at-test.true).0)

pub returns : goal.returns
returns c =
    let part = places_kept _ _ _ _ c.self.view_is c.places_of_element-places.ensures.places in
    record {
      stays = rw (sym c.self.view_is) (all_stay _ c.places_of_element-places.result.now c.args.element c.args.direction
          c.args.vehicle _ c.args.second.0 _ _ c.loop-at.invariant
          (λ row r within stands names. let at = part.all row r within stands names in (at.0, omega (arith, at.1), at.2)));
    }

pub loop-at-preserved : goal.loop-at-preserved
loop-at-preserved c =
    let part = places_kept _ _ _ _ c.self.view_is c.places_of_element-places.ensures.places in
    let p = part.sound _ nowhere c.loop-at-test.true in
    elim c.if-adds.branch [
      | then-adds w ↦
          rw w.stay-is (taken _ _ _ _ _ _ nowhere c.loop-at-test.true _ p.0 c.index-restriction.ensures _ _ _ _ _
          (p.1 c.index-restriction.result.now c.index-restriction.ensures) (w.if-adds.ensures.concerns (search rules))
          c.loop-at.invariant w.stay.ensures.stays w.joined-stay.ensures.joined)
      | else-adds w ↦
          rw w.stay-is (skipped _ _ _ _ _ _ nowhere c.loop-at-test.true _ p.0 c.index-restriction.ensures _ _ _ part
          (λ k. repeats_kept _ _ _ _ _ _ _ c.self.view_is (w.if-adds.ensures.repeated (search rules) k)) c.loop-at.invariant)
    ]
