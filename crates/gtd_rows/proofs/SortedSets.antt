-- Numbers that were sorted and rid of what stands twice.
use Rattle.std.proofs.Common.{eqb, ℕ, List, []}
use Rattle.std.specs.List.Retain.{DiffersFromLast, IsFiltered}
use Rattle.std.specs.List.Sorted.{IsPermutation, IsSorted}
use Rattle.std.specs.Ordering.{nat_cmp}
use Rattle.std.proofs.lemmas.List.Filters.{dedup_is}
use Rattle.std.proofs.lemmas.List.Kept.{Contains-dedup_nat, Contains-from_dedup}
use Rattle.std.proofs.lemmas.List.Sorted.{Contains-permutation, IsPermutation-sym}
use Rattle.std.proofs.lemmas.Map.Keys.{IsStrictlyIncreasing-dedup}
use Rattle.gtd_rows.specs.Columns.{IsSortedSet}

-- they are the same numbers in ascending order, each once
pub sorted_set : (numbers sorted kept : List ℕ) → IsPermutation numbers sorted → IsSorted nat_cmp sorted
    → IsFiltered (DiffersFromLast eqb) [] sorted kept → IsSortedSet numbers kept
sorted_set numbers sorted kept moved order filtered =
    let is = dedup_is eqb sorted kept filtered in
    record {
      order = rw is (IsStrictlyIncreasing-dedup sorted order);
      same = λ x. (
        (λ h. Contains-permutation _ _ x (IsPermutation-sym _ _ moved) (Contains-from_dedup _ _ x (rw is at h))),
        (λ h. rw is (Contains-dedup_nat _ x (Contains-permutation _ _ x moved h))),
      );
    }
