-- Elements that are asked about, in ascending order: they are the same ones, and each is found in halves.
use Rattle.std.proofs.Common.{◌≡◌, sym, refl, arith, ◌<◌, ◌≤◌, ℕ, List, [], ◌∷◌, length, get_or, true, false}
use Rattle.std.specs.Prelude.{◌==◌, Result, Ok, Err, MatchResult, is_ok}
use Rattle.std.specs.List.{list_any}
use Rattle.std.specs.List.Sorted.{IsBinarySearchResult, IsNonDecreasing, IsPermutation}
use Rattle.std.specs.Ordering.{nat_cmp}
use Rattle.std.proofs.lemmas.List.Folds.{list_any_at, list_any_none}
use Rattle.std.proofs.lemmas.List.Sorted.{length_permutation, list_any-IsPermutation, searched}
use Rattle.std.proofs.lemmas.Bool.{ne_eqb}
use Rattle.std.proofs.lemmas.List.{get_or_default}
use Rattle.gtd_records.specs.facts.IndexFacts.{by_le}
use Rattle.gtd_now.specs.Now.{is_wanted}

-- a list that was put in order asks about the same elements
pub same_wanted : (wanted ordered : List ℕ) (element : ℕ) → IsPermutation wanted ordered
    → is_wanted ordered element ≡ is_wanted wanted element
same_wanted [] [] element moved = refl
same_wanted [] (y ∷ ys) element moved = absurd (let e = length_permutation [] (y ∷ ys) moved in omega (arith, e))
same_wanted (x ∷ xs) [] element moved = absurd (let e = length_permutation (x ∷ xs) [] moved in omega (arith, e))
same_wanted (x ∷ xs) (y ∷ ys) element moved =
    sym (list_any-IsPermutation (λ w. w == element) (x ∷ xs) (y ∷ ys) moved)

same_number : (a b : ℕ) → a ≡ b → (a == b) ≡ true
same_number a b h = grind (arith)

other_number : (a b : ℕ) → (a ≡ b → ⊥) → (a == b) ≡ false
other_number a b h = ne_eqb a b h

found_in : (xs : List ℕ) (x : ℕ) (r : Result ℕ ℕ)
    → MatchResult r (λ i. (i < length xs) × (get_or xs i 0 ≡ x))
    (λ i. (i ≤ length xs) × ((k : ℕ) → k < i → get_or xs k 0 < x) × ((k : ℕ) → i ≤ k → k < length xs → x < get_or xs k 0))
    → is_ok r ≡ list_any (λ w. w == x) xs
found_in xs x (Ok i) h = sym (list_any_at (λ w. w == x) xs i 0 h.0 (same_number _ _ h.1))
found_in xs x (Err i) h =
    sym (list_any_none (λ w. w == x) xs (λ k d lt. other_number (get_or xs k d) x (λ same.
    let at = get_or_default xs k d 0 lt in
    by_le {P = ⊥} i k
    (λ le. let far = h.2 k le lt in omega (arith, at, same, far))
    (λ less. let near = h.1 k less in omega (arith, at, same, near)))))

-- what a search in halves finds in it
pub found_wanted : (xs : List ℕ) (x : ℕ) (r : Result ℕ ℕ) → IsBinarySearchResult (λ y. nat_cmp y x) xs r
    → IsNonDecreasing xs → is_ok r ≡ list_any (λ w. w == x) xs
found_wanted xs x r is rising = found_in xs x r (searched xs x r is (λ i j le lt. rising i j 0 le lt))

-- of elements that are named, those are asked about
pub some_wanted : (xs : List ℕ) (first : ℕ) (rest : List ℕ) (x : ℕ) → xs ≡ first ∷ rest
    → is_wanted xs x ≡ list_any (λ w. w == x) xs
some_wanted [] first rest x same = absurd (cc)
some_wanted (y ∷ ys) first rest x same = refl
