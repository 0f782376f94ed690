-- Places sorted by element are parted by the test "below", so a binary search finds where they part.
use Rattle.std.proofs.Common.{ltb, ltb-true, ltb-false, rules}
use Rattle.std.proofs.lemmas.List.Sorted.{IsPartitionPoint-from_clause, IsPartitionedBy-ltb}
use Rattle.gtd_places.specs.declared.place.RowPlace.{RowPlace}
use Rattle.gtd_places.proofs.order.places_below.Goals as goal

pub returns : goal.returns
returns c =
    let parted = IsPartitionedBy-ltb (λ (p : RowPlace). p.element) c.args.places.now c.args.element c.requires in
    let point = IsPartitionPoint-from_clause (λ (p : RowPlace). ltb p.element c.args.element) _ _
    c.partition_point.ensures.partitioned parted (λ a r q k. search rules) in
    record {
      within = search rules;
      below = λ k d l h. ltb-true _ _ (point.0 k d l h);
      rest = λ k d l h. ltb-false _ _ (point.1 k d l h);
    }
