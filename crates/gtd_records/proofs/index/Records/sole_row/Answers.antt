-- The records passed close the element at the seconds of the row found, or at none; a repeated record changes nothing.
use Rattle.std.proofs.Common.{◌≡◌, ◌↔◌, ◌⊎◌, sym, arith, rules, false}
use Rattle.std.specs.Prelude.{ℤ, pos, Option, Some, None, is_some}
use Rattle.gtd_records.proofs.FoundPlaces.{nowhere, places_kept, repeats_kept}
use Rattle.gtd_records.proofs.SoleFacts.{is_none_found, sole_first, sole_kept, sole_of_all}
use Rattle.gtd_records.proofs.StayFacts.{more_seconds, same_seconds}
use Rattle.gtd_records.proofs.index.Records.sole_row.Goals as goal
use Rattle.gtd_records.proofs.index.Records.sole_row.Goals.{then-adds+else-is_some, else-adds}

pub loop-at-preserved : goal.loop-at-preserved
loop-at-preserved c =
    let rows = c.self.inside.rows.items in
    let part = c.places_of_element-places.result.now in
    let kept = places_kept _ _ _ _ c.self.view_is c.places_of_element-places.ensures.places in
    let here = c.loop-at-test.true in
    let p = kept.sound _ nowhere here in
    let s = c.index.result.now in
    elim c.if-adds.branch [
      | then-adds+else-is_some w ↦
          let free : is_some c.loop-at.sole ≡ false = search rules in
          rw w.sole-is (sole_first rows part c.args.element c.args.direction c.args.vehicle c.loop-at.sole c.loop-at.at _ _ s
          (is_none_found c.loop-at.sole free) p.0 c.index.ensures
          (more_seconds rows part c.args.element c.args.direction c.args.vehicle c.loop-at.at nowhere here s p.0 c.index.ensures
          (pos 0) (pos 0) (p.1 s c.index.ensures) (c.adds.ensures.concerns (search rules))) c.loop-at.invariant)
      | else-adds w ↦
          rw w.sole-is (sole_kept rows part c.args.element c.args.direction c.args.vehicle c.loop-at.sole c.loop-at.at _
          (same_seconds rows part c.args.element c.args.direction c.args.vehicle c.loop-at.at nowhere here s p.0 c.index.ensures
          (pos 0) (pos 0) kept (λ k. repeats_kept _ _ _ _ _ _ _ c.self.view_is (c.adds.ensures.repeated (search rules) k)))
          c.loop-at.invariant)
    ]

pub returns : goal.returns
returns c =
    let part = places_kept _ _ _ _ c.self.view_is c.places_of_element-places.ensures.places in
    record {
      sole = rw (sym c.self.view_is) (sole_of_all _ c.places_of_element-places.result.now c.args.element c.args.direction
          c.args.vehicle c.loop-at.sole _ (λ row r within stands names. let at = part.all row r within stands names in
          (at.0, omega (arith, at.1), at.2)) c.loop-at.invariant);
    }
