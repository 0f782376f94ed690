-- Restrictions name a list of elements, and have a text by elements if each element has lines.
use Rattle.std.proofs.Common.{◌≡◌, ◌∙◌, sym, refl, subst, arith, ◌<◌, ◌⊎◌, inl, inr, ◌↔◌, ℕ, zero, suc, List, [], ◌∷◌}
use Rattle.std.proofs.Common.{◌++◌, length}
use Rattle.std.specs.Prelude.{Any, slice_index_or}
use Rattle.std.specs.List.{AllByRecursion}
use Rattle.std.specs.List.Sorted.{IsStrictlySortedBy}
use Rattle.std.specs.Ordering.{nat_cmp}
use Rattle.std.specs.declared.cmp.Ordering.TheVariants.{Less}
use Rattle.std.proofs.lemmas.Bool.Decides.{nat_tests}
use Rattle.std.proofs.lemmas.Map.Keys.{IsStrictlyIncreasing-from_sorted}
use Rattle.gtd_records.specs.facts.IndexFacts.{by_le}
use Rattle.gtd_records.specs.Closing.{AreElements, Restriction}
use Rattle.gtd_rows.specs.declared.direction.Direction.{Direction}
use Rattle.gtd_rows.specs.declared.direction.Direction.TheVariants.{Positive, Negative}
use Rattle.gtd_rows.specs.facts.Rising.{AllAbove, In, Rises, from_in, to_in}
use Rattle.gtd_report.specs.Putting.{AreElementLines, AreLinesOf, IsByElement}

-- ---- some of the restrictions

pub any_first : (P : Restriction → Type 0) (r : Restriction) (rs : List Restriction) → P r → Any P (r ∷ rs)
any_first P r rs p = (0, r, omega arith, refl, p)

pub any_later : (P : Restriction → Type 0) (r : Restriction) (rs : List Restriction) → Any P rs → Any P (r ∷ rs)
any_later P r rs a = (suc a.0, a.1, (let l = a.2 in omega arith), a.3, a.4)

any_at : (P : Restriction → Type 0) (r : Restriction) (rs : List Restriction) (k : ℕ) (s : Restriction)
    → k < length (r ∷ rs) → slice_index_or (r ∷ rs) k s ≡ s → P s → P r ⊎ Any P rs
any_at P r rs zero s h is p = inl (subst P (sym is) p)
any_at P r rs (suc k) s h is p = inr (k, s, omega arith, is, p)

pub any_split : (P : Restriction → Type 0) (r : Restriction) (rs : List Restriction) → Any P (r ∷ rs) → P r ⊎ Any P rs
any_split P r rs a = any_at P r rs a.0 a.1 a.2 a.3 a.4

pub any_none : (P : Restriction → Type 0) → Any P [] → ⊥
any_none P a = let l = a.2 in omega arith

-- ---- the elements

-- a list with one more number, at its place
record IsInserted (n : ℕ) (xs ys : List ℕ) : Type 0 where
  rises : Rises ys
  above : (l : ℕ) → l < n → AllAbove l xs → AllAbove l ys
  has : (m : ℕ) → In m ys ↔ ((n ≡ m) ⊎ In m xs)

lower : (n x : ℕ) (xs : List ℕ) → n < x → AllAbove x xs → AllAbove n xs
lower n x [] lt a = tt
lower n x (y ∷ ys) lt a = ((let l = a.0 in omega arith), lower n x ys lt a.1)

order : (n x : ℕ) → (n < x) ⊎ ((n ≡ x) ⊎ (x < n))
order n x =
    by_le {P = (n < x) ⊎ ((n ≡ x) ⊎ (x < n))} n x
    (λ le. by_le {P = (n < x) ⊎ ((n ≡ x) ⊎ (x < n))} x n (λ ge. inr (inl (omega arith))) (λ lt. inl lt))
    (λ gt. inr (inr gt))

place : (n x : ℕ) (xs : List ℕ) → Rises (x ∷ xs) → ((ys : List ℕ) × IsInserted n xs ys) → (n < x) ⊎ ((n ≡ x) ⊎ (x < n))
    → (ys : List ℕ) × IsInserted n (x ∷ xs) ys
place n x xs r i (inl lt) = (
  n ∷ x ∷ xs,
  record { rises = ((lt, lower n x xs lt r.0), r); above = λ l k a. (k, a); has = λ m. ((λ h. h), (λ h. h)) },
)
place n x xs r i (inr (inl e)) = (
  x ∷ xs,
  record { rises = r; above = λ l k a. a; has = λ m. ((λ h. inr h), (λ h. elim h [ inl s ↦ inl (sym e ∙ s) | inr j ↦ j ])) },
)
place n x xs r i (inr (inr gt)) = (
  x ∷ i.0,
  record {
    rises = (i.1.above x gt r.0, i.1.rises);
    above = λ l k a. (a.0, i.1.above l k a.1);
    has = λ m. (
      (λ h. elim h [ inl s ↦ inr (inl s) | inr j ↦ elim ((i.1.has m).0 j) [ inl e ↦ inl e | inr k ↦ inr (inr k) ] ]),
      (λ h. elim h [
        | inl e ↦ inr ((i.1.has m).1 (inl e))
        | inr j ↦
            elim j [ inl s ↦ inl s | inr k ↦ inr ((i.1.has m).1 (inr k)) ]
      ]),
    );
  },
)

insert : (n : ℕ) (xs : List ℕ) → Rises xs → (ys : List ℕ) × IsInserted n xs ys
insert n [] r = (n ∷ [], record { rises = (tt, tt); above = λ l k a. (k, tt); has = λ m. ((λ h. h), (λ h. h)) })
insert n (x ∷ xs) r = place n x xs r (insert n xs r.1) (order n x)

numbers : (found : List Restriction)
    → (xs : List ℕ) × Rises xs × ((n : ℕ) → In n xs ↔ Any (λ (r : Restriction). r.element ≡ n) found)
numbers [] = ([], tt, (λ n. ((λ h. absurd h), (λ a. absurd (any_none (λ (r : Restriction). r.element ≡ n) a)))))
numbers (r ∷ rs) =
    let k = numbers rs in
    let i = insert r.element k.0 k.1 in (
      i.0,
      i.1.rises,
      (λ n. (
        (λ h. elim ((i.1.has n).0 h) [
          | inl e ↦ any_first (λ (q : Restriction). q.element ≡ n) r rs e
          | inr j ↦ any_later (λ (q : Restriction). q.element ≡ n) r rs ((k.2 n).0 j)
        ]),
        (λ a. (i.1.has n).1 (elim (any_split (λ (q : Restriction). q.element ≡ n) r rs a)
            [ inl e ↦ inl e | inr j ↦ inr ((k.2 n).1 j) ])),
      )),
    )

less : (a b : ℕ) → a < b → nat_cmp a b ≡ Less
less a b h = grind (arith, nat_tests)

all_less : (n : ℕ) (xs : List ℕ) → AllAbove n xs → AllByRecursion (λ y. nat_cmp n y ≡ Less) xs
all_less n [] a = tt
all_less n (x ∷ xs) a = (less n x a.0, all_less n xs a.1)

pub sorted : (xs : List ℕ) → Rises xs → IsStrictlySortedBy nat_cmp xs
unfolding IsStrictlySortedBy
sorted [] r = tt
sorted (x ∷ xs) r = (all_less x xs r.0, sorted xs r.1)

pub some_elements : (found : List Restriction) → (elements : List ℕ) × AreElements found elements
some_elements found =
    let k = numbers found in (
      k.0,
      record {
        ascending = IsStrictlyIncreasing-from_sorted k.0 (sorted k.0 k.1);
        named = λ n. ((λ c. (k.2 n).0 (to_in n k.0 c.0 c.1 c.2)), (λ a. from_in n k.0 ((k.2 n).1 a)));
      },
    )

-- ---- the lines

module _ (AreLines : ℕ → Direction → List (List ℕ) → Type 0)
    (some : (element : ℕ) (direction : Direction) → (lines : List (List ℕ)) × AreLines element direction lines) where
  lines_of : (elements : List ℕ) → (lines : List (List ℕ)) × AreLinesOf AreLines elements lines
  lines_of [] = ([], refl)
  lines_of (e ∷ elements) =
      let p = some e Positive in
      let n = some e Negative in
      let more = lines_of elements in
      let one : AreElementLines (AreLines e) (p.0 ++ n.0) =
      record { positive = p.0; negative = n.0; are_positive = p.1; are_negative = n.1; both = refl } in
      ((p.0 ++ n.0) ++ more.0, (p.0 ++ n.0, more.0, one, more.1, refl))

  -- restrictions have a text by elements
  pub some_by_element : (found : List Restriction) (header : List ℕ) → (lines : List (List ℕ))
      × IsByElement found header AreLines lines
  some_by_element found header =
      let e = some_elements found in
      let l = lines_of e.0 in
      (header ∷ l.0, record { elements = e.0; named = e.1; rest = l.0; each = l.1; whole = refl })
