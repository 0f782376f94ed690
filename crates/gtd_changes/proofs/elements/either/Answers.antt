-- Two lists, one behind the other, then sorted and without doubles, are the sorted set of the numbers of both.
use Rattle.std.proofs.Common.{◌∙◌, ap, List, ℕ, ◌++◌}
use Rattle.gtd_changes.proofs.SortedNumbers.{sorted_set}
use Rattle.gtd_changes.proofs.elements.either.Goals as goal

pub returns : goal.returns
returns c = record {
  same = sorted_set _ _ _ _ c.sort_unstable.ensures.permutation c.sort_unstable.ensures.sorted c.dedup.ensures.filtered
      (c.in_ok-extend_from_slice.ensures.items ∙ ap (λ (xs : List ℕ). xs ++ c.args.second.now) c.in_ok-numbers.ensures.items);
}
