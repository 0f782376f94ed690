-- The elements that were found, once sorted, are still all of which the rows are not alike.
use Rattle.std.proofs.lemmas.List.Sorted.{IsNonDecreasingBy-from_sort}
use Rattle.gtd_changes.proofs.RowFacts.{alike_but}
use Rattle.gtd_changes.proofs.rows.differing.Goals as goal

pub returns : goal.returns
returns c = record {
  ascending = IsNonDecreasingBy-from_sort (λ x. x) _ c.sort_unstable.ensures.sorted;
  alike = alike_but c.args.old.now c.args.new.now c.in_ok-elements.elements.items _ c.in_ok-elements.ensures.old
      c.in_ok-elements.ensures.new c.sort_unstable.ensures.permutation;
}
