-- A cursor for each record of the element that closes the direction for the vehicle type; one left out has an equal.
use Rattle.std.proofs.Common.{sym, arith, rules, inl}
use Rattle.gtd_records.specs.ClosingCursors.{HasSecond}
use Rattle.gtd_records.proofs.FoundPlaces.{nowhere, places_kept, repeats_kept}
use Rattle.gtd_records.proofs.AlwaysFacts.{added-again}
use Rattle.gtd_records.proofs.OpenFacts.{are_closing, none_closing, one_cursor, same_cursors}
use Rattle.gtd_records.proofs.index.Records.closing.Goals as goal
use Rattle.gtd_records.proofs.index.Records.closing.Goals.{then-adds+in_ok-add, else-adds}

pub index-restriction-requires : goal.index-restriction-requires
index-restriction-requires c =
    let part = places_kept _ _ _ _ c.self.view_is c.places_of_element-places.ensures.places in
    omega (arith, (part.sound _ nowhere c.loop-at-test.true).0)

pub adds-requires-clause-placed : goal.adds-requires-clause-placed
adds-requires-clause-placed c = λ k d lt. (c.places_of_element-places.ensures.places.sound k d lt).0

pub loop-at-init : goal.loop-at-init
loop-at-init c = record {
  few = omega (arith, c.none-cursors.ensures.nodes);
  so_far = none_closing _ _ _ _ _ _ _ c.none-cursors.ensures.seconds;
  repeats = c.none-cursors.ensures.repeats c.args.horizon;
  again = λ t h. absurd (c.none-cursors.ensures.seconds t (inl h));
  start = c.none-cursors.ensures.start;
}

pub returns : goal.returns
returns c =
    let part = places_kept _ _ _ _ c.self.view_is c.places_of_element-places.ensures.places in
    record {
      nodes = (let all = part.few in let few = c.self.invariant.few in let some = c.loop-at.invariant.few in
          omega (arith, c.loop-at.auto.at-end));
      seconds = rw (sym c.self.view_is) (are_closing _ _ _ _ _ _ _ _ c.loop-at.invariant.so_far
          (λ row r within stands names. let at = part.all row r within stands names in (at.0, omega (arith, at.1), at.2)));
      repeats = c.loop-at.invariant.repeats;
      again = rw (sym c.self.view_is) c.loop-at.invariant.again;
      start = c.loop-at.invariant.start;
    }

pub loop-at-preserved : goal.loop-at-preserved
loop-at-preserved c =
    let part = places_kept _ _ _ _ c.self.view_is c.places_of_element-places.ensures.places in
    let p = part.sound _ nowhere c.loop-at-test.true in
    let name = p.1 c.index-restriction.result.now c.index-restriction.ensures in
    let old = c.loop-at.invariant in
    elim c.if-adds.branch [
      | then-adds+in_ok-add w ↦
          rw w.cursors-is (record {
            few = omega (arith, old.few, w.in_ok-add.ensures.nodes);
            so_far = one_cursor _ _ _ _ _ _ _ (HasSecond c.loop-at.cursors) (HasSecond w.add.new.self) nowhere _
                c.loop-at-test.true p.0 c.index-restriction.ensures
                name (w.if-adds.ensures.concerns (search rules)) w.in_ok-add.ensures.seconds old.so_far;
            repeats = w.in_ok-add.ensures.repeats old.repeats;
            again = added-again _ _ _ _ c.loop-at.cursors w.add.new.self _ c.index-restriction.result.now p.0
                c.index-restriction.ensures name (w.if-adds.ensures.concerns (search rules)) w.in_ok-add.ensures.again old.again;
            start = w.in_ok-add.ensures.start old.start;
          })
      | else-adds w ↦
          rw w.cursors-is (record {
            few = omega (arith, old.few);
            so_far = same_cursors _ _ _ _ _ _ _
                (HasSecond c.loop-at.cursors) nowhere _ part c.loop-at-test.true
                c.index-restriction.ensures
                (λ k. repeats_kept _ _ _ _ _ _ _ c.self.view_is (w.if-adds.ensures.repeated (search rules) k)) old.so_far;
            repeats = old.repeats;
            again = old.again;
            start = old.start;
          })
    ]
