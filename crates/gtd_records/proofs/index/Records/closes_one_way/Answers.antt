-- A record that closes one direction alone is one of the file's, and the places of the element miss none that does.
use Rattle.std.proofs.Common.{arith, rules, sym, subst, ℕ}
use Rattle.gtd_records.specs.Closing.{ClosesOneWay}
use Rattle.gtd_records.proofs.FoundPlaces.{none_more, nowhere, places_kept, told_found, told_none}
use Rattle.gtd_records.proofs.index.Records.closes_one_way.Goals as goal

pub index-requires : goal.index-requires
index-requires c =
    let part = places_kept _ _ _ _ c.self.view_is c.places_of_element-place-items.ensures.places in
    omega (arith, (part.sound _ nowhere c.loop-place-test.true).0)

pub returns-then-closes_one_way : goal.returns-then-closes_one_way
returns-then-closes_one_way c =
    let part = places_kept _ _ _ _ c.self.view_is c.places_of_element-place-items.ensures.places in
    let r = c.index.result.now in
    let p = part.sound _ nowhere c.loop-place-test.true in
    record {
      one_way = told_found _ c.places_of_element-place-items.result.now _ _ c.self.view_is _ r _ p.0 c.index.ensures
          (subst (λ (x : ℕ). ClosesOneWay x c.args.vehicle r) (p.1 r c.index.ensures) (c.if-closes_one_way.ensures.0
          (search rules))) (search rules);
    }

pub loop-place-preserved : goal.loop-place-preserved
loop-place-preserved c =
    let r = c.index.result.now in
    let part = places_kept _ _ _ _ c.self.view_is c.places_of_element-place-items.ensures.places in
    let p = part.sound _ nowhere c.loop-place-test.true in
    none_more _ _ _ _ nowhere r c.loop-place-test.true p.0 c.index.ensures
    (λ has.
    let t = c.if-closes_one_way.ensures.1 (subst (λ (x : ℕ). ClosesOneWay x c.args.vehicle r) (sym (p.1 r c.index.ensures))
    has) in
    search (rules, t))
    c.loop-place.invariant

pub returns : goal.returns
returns c =
    let part = places_kept _ _ _ _ c.self.view_is c.places_of_element-place-items.ensures.places in
    record {
      one_way = told_none _ _ _ _ c.self.view_is _ part (λ r closes. closes.names) _
          (λ k d r lt. c.loop-place.invariant k d r (omega arith)) (search rules);
    }
