-- Numbers that were sorted and rid of what stands twice.
use Rattle.std.proofs.Common.{eqb, ◌↔◌, ℕ, List, []}
use Rattle.std.specs.List.{Contains}
use Rattle.std.specs.List.Retain.{DiffersFromLast, IsFiltered}
use Rattle.std.specs.List.Sorted.{IsPermutation, IsSorted, IsStrictlyIncreasing}
use Rattle.std.specs.Ordering.{nat_cmp}
use Rattle.std.proofs.lemmas.List.Filters.{dedup_is}
use Rattle.std.proofs.lemmas.List.Kept.{Contains-dedup_nat, Contains-from_dedup}
use Rattle.std.proofs.lemmas.List.Sorted.{Contains-permutation, IsPermutation-sym}
use Rattle.std.proofs.lemmas.Map.Keys.{IsStrictlyIncreasing-dedup}

pub in-order : (sorted kept : List ℕ) → IsSorted nat_cmp sorted → IsFiltered (DiffersFromLast eqb) [] sorted kept
    → IsStrictlyIncreasing kept
in-order sorted kept order filtered =
    let is = dedup_is eqb sorted kept filtered in rw is (IsStrictlyIncreasing-dedup sorted order)

-- they are the same numbers
pub same-numbers : (numbers sorted kept : List ℕ) → IsPermutation numbers sorted
    → IsFiltered (DiffersFromLast eqb) [] sorted kept → (x : ℕ) → Contains kept x ↔ Contains numbers x
same-numbers numbers sorted kept moved filtered x =
    let is = dedup_is eqb sorted kept filtered in (
      (λ h. Contains-permutation _ _ x (IsPermutation-sym _ _ moved) (Contains-from_dedup _ _ x (rw is at h))),
      (λ h. rw is (Contains-dedup_nat _ x (Contains-permutation _ _ x moved h))),
    )
