-- The sorted copy asks about the same elements.
use Rattle.std.proofs.lemmas.List.Sorted.{IsNonDecreasingBy-from_sort}
use Rattle.gtd_now.proofs.WantedFacts.{same_wanted}
use Rattle.gtd_now.proofs.now.in_order.Goals as goal

pub returns : goal.returns
returns c =
    let copied = rw c.new-ordered.ensures.items at c.in_ok-extend_from_slice.ensures.items in
    record {
      order = (
        IsNonDecreasingBy-from_sort (λ x. x) _ c.sort_unstable.ensures.sorted,
        λ element. same_wanted c.args.wanted.now _ element (rw copied at c.sort_unstable.ensures.permutation),
      );
    }
