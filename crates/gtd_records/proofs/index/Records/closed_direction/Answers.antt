-- The rows show, place by place, when the direction is closed; one without a domain ends the search.
use Rattle.std.proofs.Common.{◌≡◌, sym, subst, arith, rules, false, List}
use Rattle.std.specs.Prelude.{is_none, slice_index_or}
use Rattle.gtd_records.proofs.ClosedWhenFacts.{has_domain, when_all, when_domain, when_other}
use Rattle.gtd_records.proofs.FoundPlaces.{nowhere, places_kept}
use Rattle.gtd_records.specs.Closing.{Restriction}
use Rattle.gtd_records.specs.facts.IndexFacts.{at_index}
use Rattle.gtd_records.proofs.index.Records.closed_direction.Goals as goal
use Rattle.gtd_records.proofs.index.Records.closed_direction.Goals.{then-concerns_at+else-is_none, else-concerns_at}

pub loop-place-preserved : goal.loop-place-preserved
loop-place-preserved c =
    let told = c.args.self.now in
    let rows = c.self.inside.rows.items in
    let part = c.args.places.now in
    let i = c.loop-place.place-index in
    let here = c.loop-place-test.true in
    let kept = places_kept _ _ _ _ c.self.view_is c.requires.places in
    let p = kept.sound _ nowhere here in
    let row = (slice_index_or part i nowhere).row in
    elim c.if-concerns_at.branch [
      | then-concerns_at+else-is_none w ↦
          let s = w.index-row.result.now in
          let at : s ≡ slice_index_or told row s = subst (λ (l : List Restriction). s ≡ slice_index_or l row s) c.self.view_is
          w.index-row.ensures in
          let says = c.requires.places.says _ nowhere here s at in
          let some : is_none w.domain.result ≡ false = search rules in
          rw w.when-is (when_domain rows c.args.at.element c.args.at.direction c.args.vehicle part i nowhere s here p.0
          w.index-row.ensures c.loop-place.when (p.1 s w.index-row.ensures)
          ((c.concerns_at.ensures.concerns s at says).0 (search rules)) (has_domain _ _ _ w.domain.ensures.domain some)
          c.loop-place.invariant)
      | else-concerns_at w ↦
          let a = at_index told row (c.requires.places.sound _ nowhere here).0 in
          let says = c.requires.places.says _ nowhere here a.0 (sym a.1) in
          let at = subst (λ (l : List Restriction). a.0 ≡ slice_index_or l row a.0) (sym c.self.view_is) (sym a.1) in
          rw w.when-is (when_other rows c.args.at.element c.args.at.direction c.args.vehicle part i nowhere a.0 here p.0 at
          c.loop-place.when (λ has. let on = (c.concerns_at.ensures.concerns a.0 (sym a.1) says).1 has in search (rules, on))
          c.loop-place.invariant)
    ]

pub returns : goal.returns
returns c =
    let rows = c.self.inside.rows.items in
    let part = c.args.places.now in
    let kept = places_kept _ _ _ _ c.self.view_is c.requires.places in
    record {
      when = rw (sym c.self.view_is) (when_all rows c.args.at.element c.args.at.direction c.args.vehicle part c.loop-place.when
          c.loop-place.place-index c.loop-place.invariant
          (λ row r within stands names. let at = kept.all row r within stands names in (at.0, omega (arith, at.1), at.2)));
    }
