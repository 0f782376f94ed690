-- The rows of two files side by side: an element that is not listed has the same rows in both, and so is open at the same
-- seconds.
use Rattle.std.proofs.Common.{◌≡◌, ◌∙◌, ap, sym, subst, refl, arith, ◌<◌, ◌≤◌, ◌+◌, ◌⊎◌, inl, inr, false, ℕ, List, [], ◌∷◌}
use Rattle.std.proofs.Common.{◌++◌, length}
use Rattle.std.specs.Prelude.{ℤ, IfNone, IfSome, MatchResult, Result, Ok, Err, Option, Some, None, map, option_map}
use Rattle.std.specs.Prelude.{slice_index_or}
use Rattle.std.proofs.lemmas.List.{get_or-map, length-map}
use Rattle.std.specs.List.{Contains}
use Rattle.std.specs.List.Sorted.{IsBinarySearchResult, IsNonDecreasing, IsPermutation}
use Rattle.std.specs.Ordering.{nat_cmp}
use Rattle.std.specs.Result.{is_ok}
use Rattle.std.proofs.lemmas.List.Sorted.{Contains-permutation, IsPermutation-sym, searched}
use Rattle.gtd_records.specs.Closing.{IsOpen, Restriction}
use Rattle.gtd_rows.specs.declared.direction.Direction.{Direction}
use Rattle.gtd_records.specs.facts.IndexFacts.{any_default, by_le}
use Rattle.gtd_rows.specs.facts.Rising.{In, from_in, to_in}
use Rattle.std.proofs.Common.{◌-◌, add-zero}
use Rattle.std.proofs.lemmas.List.{append-nil}
use Rattle.gtd_changes.specs.Same.{AreAlikeBut, AreFound, IsRowAt, Meets, element_of, new_rows, old_rows}
use Rattle.gtd_changes.specs.declared.rows.Meeting.{Meeting}
use Rattle.gtd_changes.specs.declared.rows.Meeting.TheVariants.{Same, Old, New}

-- ---- one row

-- an element of a list, in what a function makes of the list
pub row_stands : {X Y : Type 0} (f : X → Y) (xs : List X) (k : ℕ) (x : X) → k < length xs → slice_index_or xs k x ≡ x
    → (k < length (map f xs)) × (slice_index_or (map f xs) k (f x) ≡ f x)
row_stands f xs k x lt e = let same = length-map xs f in (omega arith, get_or-map f xs k x (f x) lt ∙ ap f e)

pub told_row : {X : Type 0} (o : Option X) (x : X) → o ≡ Some x → (f : X → Restriction) → option_map f o ≡ Some (f x)
told_row o x e f = ap (option_map f) e

pub row_of : {X : Type 0} (f : X → Restriction) (P : Restriction → Type 0) (o : Option X) (r : Restriction)
    → IfSome o (λ x. P (f x)) → option_map f o ≡ Some r → P r
row_of f P (Some x) r p e = let same : f x ≡ r = cc in subst P same p
row_of f P None r p e = absurd cc

pub none_of : {X : Type 0} (f : X → Restriction) (P : Type 0) (o : Option X) → IfNone o P → option_map f o ≡ None → P
none_of f P None p e = p
none_of f P (Some x) p e = absurd cc

-- ---- one element more is listed

in_left : (n : ℕ) (xs ys : List ℕ) → In n xs → In n (xs ++ ys)
in_left n [] ys i = absurd i
in_left n (x ∷ xs) ys (inl e) = inl e
in_left n (x ∷ xs) ys (inr i) = inr (in_left n xs ys i)

in_last : (n : ℕ) (xs : List ℕ) → In n (xs ++ n ∷ [])
in_last n [] = inl refl
in_last n (x ∷ xs) = inr (in_last n xs)

listed : (n m : ℕ) (xs : List ℕ) → Contains xs n → Contains (xs ++ m ∷ []) n
listed n m xs c = from_in n (xs ++ m ∷ []) (in_left n xs (m ∷ []) (to_in n xs c.0 c.1 c.2))

just_listed : (n m : ℕ) (xs : List ℕ) → n ≡ m → Contains (xs ++ m ∷ []) n
just_listed n m xs e = subst (λ (k : ℕ). Contains (xs ++ m ∷ []) k) (sym e) (from_in m (xs ++ m ∷ []) (in_last m xs))

-- ---- the rows before a place

module _ (rows others : List Restriction) where
  -- each of them stands in the other file, or its element is listed
  abbrev pub FoundTo : ℕ → List ℕ → Type 0
  FoundTo place elements = (k : ℕ) (r : Restriction) → k < place → IsRowAt rows k r
      → Contains elements r.element ⊎ Contains others r

  pub found_none : (elements : List ℕ) → FoundTo 0 elements
  found_none elements = λ k r lt at. absurd (omega arith)

  one_row : (k : ℕ) (r s : Restriction) → IsRowAt rows k r → IsRowAt rows k s → r ≡ s
  one_row k r s p q = sym p.1 ∙ any_default rows k r s p.0 ∙ q.1

  by_place : (P : Type 0) (k place : ℕ) → k < place + 1 → (k < place → P) → (k ≡ place → P) → P
  by_place P k place lt before at = by_le place k (λ le. at (omega arith)) before

  -- so does the next
  pub found_same : (place other : ℕ) (elements : List ℕ) (s : Restriction) → FoundTo place elements → IsRowAt rows place s
      → IsRowAt others other s → FoundTo (place + 1) elements
  found_same place other elements s found at there = λ k r lt is.
      by_place (Contains elements r.element ⊎ Contains others r) k place lt
      (λ before. found k r before is)
      (λ e. let same = one_row place s r at (subst (λ (n : ℕ). IsRowAt rows n r) e is) in
      inr (subst (Contains others) same (other, there.0, there.1)))

  -- its element is listed now
  pub found_listed : (place n : ℕ) (elements : List ℕ) (s : Restriction) → FoundTo place elements → IsRowAt rows place s
      → s.element ≡ n → FoundTo (place + 1) (elements ++ n ∷ [])
  found_listed place n elements s found at is_n = λ k r lt is.
      by_place (Contains (elements ++ n ∷ []) r.element ⊎ Contains others r) k place lt
      (λ before. elim (found k r before is) [ inl c ↦ inl (listed r.element n elements c) | inr c ↦ inr c ])
      (λ e. let same = one_row place s r at (subst (λ (m : ℕ). IsRowAt rows m r) e is) in
      inl (just_listed r.element n elements (subst (λ (x : Restriction). x.element ≡ n) same is_n)))

  -- one element more makes no difference
  pub found_more : (place n : ℕ) (elements : List ℕ) → FoundTo place elements → FoundTo place (elements ++ n ∷ [])
  found_more place n elements found = λ k r lt is.
      elim (found k r lt is) [ inl c ↦ inl (listed r.element n elements c) | inr c ↦ inr c ]

  pub found_all : (place : ℕ) (elements : List ℕ) → length rows ≤ place → FoundTo place elements → AreFound rows others elements
  found_all place elements all found = λ r c. found c.0 r (let l = c.1 in omega arith) (c.1, c.2)

-- ---- one step

module _ (rows others : List Restriction) (at next : ℕ) (one two : Option Restriction)
    (here : (r : Restriction) → one ≡ Some r → IsRowAt rows at r) (there : (r : Restriction) → two ≡ Some r
    → IsRowAt others next r)
  where
    -- the rows of the old file
    pub old_fits : (m : Meeting) → Meets one two (Some m) → at ≤ length rows → at + old_rows m ≤ length rows
    old_fits Same meets le = let l = (here meets.0 meets.1).0 in omega arith
    old_fits (Old element) meets le = let l = (here meets.0 meets.1).0 in omega arith
    old_fits (New element) meets le = omega arith

    pub old_step : (m : Meeting) (elements : List ℕ) → Meets one two (Some m) → FoundTo rows others at elements
        → FoundTo rows others (at + old_rows m) (elements ++ element_of m)
    old_step Same elements meets found =
        rw (append-nil elements) (found_same rows others at next elements meets.0 found (here meets.0 meets.1)
        (there meets.0 meets.2))
    old_step (Old element) elements meets found =
        found_listed rows others at element elements meets.0 found (here meets.0 meets.1) meets.2
    old_step (New element) elements meets found =
        rw (add-zero at) (found_more rows others at element elements found)

    -- those of the new one
    pub new_fits : (m : Meeting) → Meets one two (Some m) → next ≤ length others → next + new_rows m ≤ length others
    new_fits Same meets le = let l = (there meets.0 meets.2).0 in omega arith
    new_fits (Old element) meets le = omega arith
    new_fits (New element) meets le = let l = (there meets.0 meets.1).0 in omega arith

    pub new_step : (m : Meeting) (elements : List ℕ) → Meets one two (Some m) → FoundTo others rows next elements
        → FoundTo others rows (next + new_rows m) (elements ++ element_of m)
    new_step Same elements meets found =
        rw (append-nil elements) (found_same others rows next at elements meets.0 found (there meets.0 meets.2)
        (here meets.0 meets.1))
    new_step (Old element) elements meets found =
        rw (add-zero next) (found_more others rows next element elements found)
    new_step (New element) elements meets found =
        found_listed others rows next element elements meets.0 found (there meets.0 meets.1) meets.2

-- each step is done with a row
pub some_rows : (m : Meeting) → 0 < old_rows m + new_rows m
some_rows Same = omega arith
some_rows (Old element) = omega arith
some_rows (New element) = omega arith

-- fewer rows are left
pub fewer_left : (a b at next i j : ℕ) → at + i ≤ a → next + j ≤ b → 0 < i + j
    → (a - (at + i)) + (b - (next + j)) < (a - at) + (b - next)
fewer_left a b at next i j l k some = omega arith

-- ---- all rows

open_too : (a b : List Restriction) (elements : List ℕ) → AreFound b a elements → (element : ℕ)
    → (Contains elements element → ⊥) → (direction : Direction) (vehicle : ℕ) (t : ℤ)
    → IsOpen a element direction vehicle t → IsOpen b element direction vehicle t
open_too a b elements found element never direction vehicle t is_open = λ closed.
    elim (found closed.1 (closed.0, closed.2, closed.3)) [
      | inl c ↦ never (subst (Contains elements) closed.4.names c)
      | inr c ↦ is_open (c.0, closed.1, c.1, c.2, closed.4)
    ]

-- the rows of two files in another order
pub found_in : (old new one two : List Restriction) (elements : List ℕ) → IsPermutation old one → IsPermutation new two
    → AreFound one two elements → AreFound old new elements
found_in old new one two elements p q found = λ r h.
    elim (found r (Contains-permutation old one r p h)) [
      | inl listed ↦ inl listed
      | inr there ↦ inr (Contains-permutation two new r (IsPermutation-sym new two q) there)
    ]

-- an element that is not listed is open at the same seconds
pub alike_but : (old new : List Restriction) (elements sorted : List ℕ) → AreFound old new elements → AreFound new old elements
    → IsPermutation elements sorted → AreAlikeBut old new sorted
alike_but old new elements sorted one two moved = λ element never direction vehicle t.
    let none : Contains elements element → ⊥ = λ c. never (Contains-permutation elements sorted element moved c) in (
      (λ h. open_too old new elements two element none direction vehicle t h),
      (λ h. open_too new old elements one element none direction vehicle t h),
    )

-- ---- a number that is not found

not_there : (xs : List ℕ) (x : ℕ) (r : Result ℕ ℕ)
    → MatchResult r (λ i. (i < length xs) × (slice_index_or xs i 0 ≡ x))
    (λ i. (i ≤ length xs) × ((k : ℕ) → k < i → slice_index_or xs k 0 < x)
    × ((k : ℕ) → i ≤ k → k < length xs → x < slice_index_or xs k 0))
    → is_ok r ≡ false → Contains xs x → ⊥
not_there xs x (Ok i) found e c = absurd cc
not_there xs x (Err i) found e c =
    let same = any_default xs c.0 0 x c.1 ∙ c.2 in
    by_le i c.0
    (λ le. let far = found.2 c.0 le c.1 in omega arith)
    (λ lt. let near = found.1 c.0 lt in omega arith)

pub not_listed : (xs : List ℕ) (x : ℕ) (r : Result ℕ ℕ) → IsBinarySearchResult (λ y. nat_cmp y x) xs r → IsNonDecreasing xs
    → is_ok r ≡ false → Contains xs x → ⊥
not_listed xs x r is rising e c = not_there xs x r (searched xs x r is (λ i j le lt. rising i j 0 le lt)) e c
