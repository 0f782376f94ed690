-- Numbers that were sorted and rid of what stands twice, and the elements that either of two files names.
use Rattle.std.proofs.Common.{◌≡◌, eqb, subst, ◌⊎◌, inl, inr, ℕ, List, [], ◌∷◌, ◌++◌}
use Rattle.std.specs.Prelude.{Any}
use Rattle.std.specs.List.{Contains}
use Rattle.std.specs.List.Retain.{DiffersFromLast, IsFiltered}
use Rattle.std.specs.List.Sorted.{IsPermutation, IsSorted}
use Rattle.std.specs.Ordering.{nat_cmp}
use Rattle.std.proofs.lemmas.List.Filters.{dedup_is}
use Rattle.std.proofs.lemmas.List.Kept.{Contains-dedup_nat, Contains-from_dedup}
use Rattle.std.proofs.lemmas.List.Sorted.{Contains-permutation, IsPermutation-sym}
use Rattle.std.proofs.lemmas.Map.Keys.{IsStrictlyIncreasing-dedup}
use Rattle.gtd_records.specs.Closing.{AreElements, Restriction}
use Rattle.gtd_rows.specs.Columns.{IsSortedSet}
use Rattle.gtd_rows.specs.facts.Rising.{In, from_in, to_in}
use Rattle.gtd_report.specs.facts.SomeElements.{any_first, any_later, any_none, any_split}

-- they are the same numbers in ascending order, each once
pub sorted_set : (all numbers sorted kept : List ℕ) → IsPermutation numbers sorted → IsSorted nat_cmp sorted
    → IsFiltered (DiffersFromLast eqb) [] sorted kept → numbers ≡ all → IsSortedSet all kept
sorted_set all numbers sorted kept moved order filtered same =
    let is = dedup_is eqb sorted kept filtered in
    subst (λ (xs : List ℕ). IsSortedSet xs kept) same
    (record {
      order = rw is (IsStrictlyIncreasing-dedup sorted order);
      same = λ x. (
        (λ h. Contains-permutation _ _ x (IsPermutation-sym _ _ moved) (Contains-from_dedup _ _ x (rw is at h))),
        (λ h. rw is (Contains-dedup_nat _ x (Contains-permutation _ _ x moved h))),
      );
    })

-- ---- what one of two lists has

pub in_both : (n : ℕ) (xs ys : List ℕ) → In n (xs ++ ys) → In n xs ⊎ In n ys
in_both n [] ys i = inr i
in_both n (x ∷ xs) ys (inl e) = inl (inl e)
in_both n (x ∷ xs) ys (inr i) = elim (in_both n xs ys i) [ inl j ↦ inl (inr j) | inr j ↦ inr j ]

pub in_first : (n : ℕ) (xs ys : List ℕ) → In n xs → In n (xs ++ ys)
in_first n [] ys i = absurd i
in_first n (x ∷ xs) ys (inl e) = inl e
in_first n (x ∷ xs) ys (inr i) = inr (in_first n xs ys i)

pub in_second : (n : ℕ) (xs ys : List ℕ) → In n ys → In n (xs ++ ys)
in_second n [] ys i = i
in_second n (x ∷ xs) ys i = inr (in_second n xs ys i)

pub in_of : (n : ℕ) (xs : List ℕ) → Contains xs n → In n xs
in_of n xs c = to_in n xs c.0 c.1 c.2

module _ (P : Restriction → Type 0) where
  pub any_either : (a b : List Restriction) → Any P (a ++ b) → Any P a ⊎ Any P b
  any_either [] b h = inr h
  any_either (r ∷ a) b h = elim (any_split P r (a ++ b) h) [
    | inl p ↦ inl (any_first P r a p)
    | inr q ↦ elim (any_either a b q) [ inl x ↦ inl (any_later P r a x) | inr y ↦ inr y ]
  ]

  pub any_left : (a b : List Restriction) → Any P a → Any P (a ++ b)
  any_left [] b h = absurd (any_none P h)
  any_left (r ∷ a) b h = elim (any_split P r a h) [
    | inl p ↦ any_first P r (a ++ b) p
    | inr q ↦ any_later P r (a ++ b) (any_left a b q)
  ]

  pub any_right : (a b : List Restriction) → Any P b → Any P (a ++ b)
  any_right [] b h = h
  any_right (r ∷ a) b h = any_later P r (a ++ b) (any_right a b h)

-- the elements of either are those of both together
pub either_elements : (old new : List Restriction) (xs ys zs : List ℕ) → AreElements old xs → AreElements new ys
    → IsSortedSet (xs ++ ys) zs → AreElements (old ++ new) zs
either_elements old new xs ys zs p q set = record {
  ascending = set.order;
  named = λ n. (
    (λ c. elim (in_both n xs ys (in_of n (xs ++ ys) ((set.same n).0 c))) [
      | inl i ↦ any_left (λ (r : Restriction). r.element ≡ n) old new ((p.named n).0 (from_in n xs i))
      | inr i ↦ any_right (λ (r : Restriction). r.element ≡ n) old new ((q.named n).0 (from_in n ys i))
    ]),
    (λ a. (set.same n).1 (from_in n (xs ++ ys) (elim (any_either (λ (r : Restriction). r.element ≡ n) old new a) [
      | inl h ↦ in_first n xs ys (in_of n xs ((p.named n).1 h))
      | inr h ↦ in_second n xs ys (in_of n ys ((q.named n).1 h))
    ]))),
  );
}

-- elements that both name are those of both together
pub same_elements : (old new : List Restriction) (xs : List ℕ) → AreElements old xs → AreElements new xs
    → AreElements (old ++ new) xs
same_elements old new xs p q = record {
  ascending = p.ascending;
  named = λ n. (
    (λ c. any_left (λ (r : Restriction). r.element ≡ n) old new ((p.named n).0 c)),
    (λ a. elim (any_either (λ (r : Restriction). r.element ≡ n) old new a)
        [ inl h ↦ (p.named n).1 h | inr h ↦ (q.named n).1 h ]),
  );
}
