-- The places and the elements made of the rows are those that an index of these rows must have.
use Rattle.gtd_records.specs.facts.IndexFacts.{are_elements}
use Rattle.gtd_records.proofs.index.Records.new.Goals as goal

pub invariant_of-result : goal.invariant_of-result
invariant_of-result c =
    let placed = rw c.as_slice.ensures.value at c.in_ok-ordered.ensures in
    record {
      placed = placed;
      named = are_elements c.args.rows.items c.in_ok-ordered.ordered.places.items placed c.in_ok-elements.elements.items
          c.in_ok-elements.ensures.ascending (rw c.as_slice-2.ensures.value at c.in_ok-elements.ensures.same);
      few = c.requires;
    }
