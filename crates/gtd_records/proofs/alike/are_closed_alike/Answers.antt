-- Each of the two is closed where the other is.
use Rattle.gtd_records.proofs.AlikeFacts.{closed_too}
use Rattle.gtd_records.proofs.alike.are_closed_alike.Goals as goal

pub returns-then-is_within : goal.returns-then-is_within
returns-then-is_within c = record {
  alike = λ yes t.
      let rows = c.args.found.now in
      let one = c.args.one in
      let other = c.args.other in
      let part = c.places_of_element-places.result.now in
      let others = c.places_beside.result.now in
      let here = c.places_of_element-places.ensures.places in
      let there = c.places_beside.ensures.places in (
        closed_too rows part others one.direction other.direction c.args.vehicle one.element other.element here there
            (c.is_within.ensures.covered c.if-is_within.true) t,
        closed_too rows others part other.direction one.direction c.args.vehicle other.element one.element there here
            (c.is_within-then-is_within.ensures.covered yes) t,
      );
}
