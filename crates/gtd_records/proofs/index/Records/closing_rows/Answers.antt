-- The numbers of the rows gathered so far are those of the closing records among the places passed.
use Rattle.std.proofs.Common.{arith, rules, sym, subst, ℕ}
use Rattle.gtd_records.specs.Closing.{Closes}
use Rattle.gtd_records.proofs.ClosingRowFacts.{all_rows, none_yet, skipped, taken}
use Rattle.gtd_records.proofs.FoundPlaces.{nowhere, places_kept}
use Rattle.gtd_records.proofs.index.Records.closing_rows.Goals as goal
use Rattle.gtd_records.proofs.index.Records.closing_rows.Goals.{then-closes+in_ok-push, else-closes}

pub loop-place-init : goal.loop-place-init
loop-place-init c = rw (c.new-rows.ensures.items) (none_yet _ _ _ _ _ _)

pub index-restriction-requires : goal.index-restriction-requires
index-restriction-requires c =
    let part = places_kept _ _ _ _ c.self.view_is c.places_of_element-place-items.ensures.places in
    omega (arith, (part.sound _ nowhere c.loop-place-test.true).0)

pub overflow_add-place : goal.overflow_add-place
overflow_add-place c =
    let part = places_kept _ _ _ _ c.self.view_is c.places_of_element-place-items.ensures.places in
    let p = part.sound _ nowhere c.loop-place-test.true in
    omega (arith, p.0, c.self.invariant.few)

pub returns : goal.returns
returns c =
    let part = places_kept _ _ _ _ c.self.view_is c.places_of_element-place-items.ensures.places in
    record {
      rows = rw (sym c.self.view_is) (all_rows _ c.places_of_element-place-items.result.now c.args.element c.args.direction
          c.args.vehicle c.args.second.0 _ _ _ c.loop-place.invariant c.in_order.ensures
          (λ row r within stands names. let at = part.all row r within stands names in (at.0, omega (arith, at.1), at.2)));
    }

pub loop-place-preserved : goal.loop-place-preserved
loop-place-preserved c =
    let part = places_kept _ _ _ _ c.self.view_is c.places_of_element-place-items.ensures.places in
    let s = c.index-restriction.result.now in
    let p = part.sound _ nowhere c.loop-place-test.true in
    let name = p.1 c.index-restriction.result.now c.index-restriction.ensures in
    elim c.if-closes.branch [
      | then-closes+in_ok-push w ↦
          rw (w.rows-is, w.in_ok-push.ensures.items)
          (taken _ _ _ _ _ _ _ _ nowhere c.loop-place-test.true _ p.0 c.index-restriction.ensures c.loop-place.invariant
          (subst (λ (x : ℕ). Closes x c.args.direction c.args.vehicle c.args.second.0 s) name (w.if-closes.ensures.0
          (search rules))))
      | else-closes w ↦
          rw w.rows-is
          (skipped _ _ _ _ _ _ _ _ nowhere c.loop-place-test.true _ p.0 c.index-restriction.ensures c.loop-place.invariant
          (λ closes.
          let on = w.if-closes.ensures.1 (subst (λ (x : ℕ). Closes x c.args.direction c.args.vehicle c.args.second.0 s)
          (sym name) closes) in
          search (rules, on)))
    ]
