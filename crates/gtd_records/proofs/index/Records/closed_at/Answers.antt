-- A record of the element that closes it is one of the file's, and the places of the element miss none that does. A place has the
-- directions and vehicle types of its record.
use Rattle.std.proofs.Common.{arith, refl, rules, sym, subst, ℕ}
use Rattle.gtd_records.specs.Closing.{Closes}
use Rattle.gtd_records.specs.facts.IndexFacts.{at_index}
use Rattle.gtd_records.proofs.FoundPlaces.{none_more, nowhere, told_found, told_none}
use Rattle.gtd_records.proofs.index.Records.closed_at.Goals as goal

pub closes_at-requires-clause-inside : goal.closes_at-requires-clause-inside
closes_at-requires-clause-inside c =
    (c.places_of_element-place-items.ensures.places.sound _ nowhere c.loop-place-test.true).0

pub loop-place-init : goal.loop-place-init
loop-place-init c = λ k d r lt. absurd (omega arith)

pub returns-then-closes_at : goal.returns-then-closes_at
returns-then-closes_at c =
    let part = c.places_of_element-place-items.ensures.places in
    let p = part.sound _ nowhere c.loop-place-test.true in
    let at = at_index c.args.self.now _ p.0 in
    let says = part.says _ nowhere c.loop-place-test.true at.0 (sym at.1) in
    record {
      closed = told_found c.args.self.now c.places_of_element-place-items.result.now _ _ refl _ at.0 _ p.0 (sym at.1)
          (subst (λ (x : ℕ). Closes x c.args.direction c.args.vehicle c.args.second.0 at.0) (p.1 at.0 (sym at.1))
          ((c.if-closes_at.ensures.closes at.0 (sym at.1) says).0 (search rules))) (search rules);
    }

pub loop-place-preserved : goal.loop-place-preserved
loop-place-preserved c =
    let part = c.places_of_element-place-items.ensures.places in
    let p = part.sound _ nowhere c.loop-place-test.true in
    let at = at_index c.args.self.now _ p.0 in
    let says = part.says _ nowhere c.loop-place-test.true at.0 (sym at.1) in
    none_more _ _ _ _ nowhere at.0 c.loop-place-test.true p.0 (sym at.1)
    (λ has.
    let t = (c.if-closes_at.ensures.closes at.0 (sym at.1) says).1
    (subst (λ (x : ℕ). Closes x c.args.direction c.args.vehicle c.args.second.0 at.0) (sym (p.1 at.0 (sym at.1))) has) in
    search (rules, t))
    c.loop-place.invariant

pub returns : goal.returns
returns c = record {
  closed = told_none _ _ _ _ refl _ c.places_of_element-place-items.ensures.places (λ r closes. closes.names) _
      (λ k d r lt. c.loop-place.invariant k d r (omega arith)) (search rules);
}
