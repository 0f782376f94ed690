-- Each list of codes can be put into ascending order, each code once.
use Rattle.std.proofs.Common.{◌≡◌, ◌∙◌, sym, ◌<◌, ◌⊎◌, inl, inr, ℕ, List, [], ◌∷◌, arith}
use Rattle.std.specs.List.Sorted.{IsStrictlySortedBy}
use Rattle.std.specs.List.{AllByRecursion}
use Rattle.std.specs.Ordering.{nat_cmp}
use Rattle.std.specs.declared.cmp.Ordering.TheVariants.{Less}
use Rattle.std.proofs.lemmas.Bool.{cases_order}
use Rattle.std.proofs.lemmas.Bool.Decides.{nat_tests}
use Rattle.std.proofs.lemmas.Map.Keys.{IsStrictlyIncreasing-from_sorted}
use Rattle.gtd_rows.specs.Columns.{IsSortedSet}
use Rattle.gtd_rows.specs.facts.Rising.{AllAbove, In, Rises, from_in, to_in}

-- ---- a rising list increases strictly

is_less : (a b : ℕ) → a < b → nat_cmp a b ≡ Less
is_less a b lt = grind (arith, nat_tests)

all_less : (n : ℕ) (xs : List ℕ) → AllAbove n xs → AllByRecursion (λ y. nat_cmp n y ≡ Less) xs
all_less n [] a = tt
all_less n (x ∷ xs) a = (is_less n x a.0, all_less n xs a.1)

sorted : (xs : List ℕ) → Rises xs → IsStrictlySortedBy nat_cmp xs
unfolding IsStrictlySortedBy
sorted [] r = tt
sorted (x ∷ xs) r = (all_less x xs r.0, sorted xs r.1)

-- ---- a code is put into its place

lower : (n m : ℕ) (xs : List ℕ) → n < m → AllAbove m xs → AllAbove n xs
lower n m [] lt a = tt
lower n m (x ∷ xs) lt a = (omega (arith, lt, a.0), lower n m xs lt a.1)

-- the members of a rising list, and one more
record Put (n : ℕ) (xs : List ℕ) : Type 0 where
  types : List ℕ
  rises : Rises types
  into : (m : ℕ) → In m types → (n ≡ m) ⊎ In m xs
  from : (m : ℕ) → (n ≡ m) ⊎ In m xs → In m types
  above : (k : ℕ) → k < n → AllAbove k xs → AllAbove k types

put_there : (n x : ℕ) (xs : List ℕ) → n ≡ x → Rises (x ∷ xs) → Put n (x ∷ xs)
put_there n x xs same r = record {
  types = x ∷ xs;
  rises = r;
  into = λ m i. inr i;
  from = λ m i. elim i [
    | inl e ↦ inl (sym same ∙ e)
    | inr j ↦ j
  ];
  above = λ k lt a. a;
}

put_first : (n x : ℕ) (xs : List ℕ) → n < x → Rises (x ∷ xs) → Put n (x ∷ xs)
put_first n x xs lt r = record {
  types = n ∷ x ∷ xs;
  rises = ((lt, lower n x xs lt r.0), r);
  into = λ m i. i;
  from = λ m i. i;
  above = λ k less a. (less, a);
}

put_later : (n x : ℕ) (xs : List ℕ) → x < n → Rises (x ∷ xs) → Put n xs → Put n (x ∷ xs)
put_later n x xs gt r p = record {
  types = x ∷ p.types;
  rises = (p.above x gt r.0, p.rises);
  into = λ m i. elim i [
    | inl e ↦ inr (inl e)
    | inr j ↦ elim (p.into m j) [
      | inl e ↦ inl e
      | inr h ↦ inr (inr h)
    ]
  ];
  from = λ m i. elim i [
    | inl e ↦ inr (p.from m (inl e))
    | inr (inl e) ↦ inl e
    | inr (inr h) ↦ inr (p.from m (inr h))
  ];
  above = λ k lt a. (a.0, p.above k lt a.1);
}

put : (n : ℕ) (xs : List ℕ) → Rises xs → Put n xs
put n [] r = record {
  types = n ∷ [];
  rises = (tt, tt);
  into = λ m i. i;
  from = λ m i. i;
  above = λ k lt a. (lt, a);
}
put n (x ∷ xs) r =
    elim (cases_order n x) [
      | inl same ↦ put_there n x xs same r
      | inr (inl lt) ↦ put_first n x xs lt r
      | inr (inr gt) ↦ put_later n x xs gt r (put n xs r.1)
    ]

record Ordered (codes : List ℕ) : Type 0 where
  types : List ℕ
  rises : Rises types
  into : (m : ℕ) → In m types → In m codes
  from : (m : ℕ) → In m codes → In m types

one_more : (code : ℕ) (codes : List ℕ) (o : Ordered codes) → Put code o.types → Ordered (code ∷ codes)
one_more code codes o p = record {
  types = p.types;
  rises = p.rises;
  into = λ m i. elim (p.into m i) [
    | inl e ↦ inl e
    | inr j ↦ inr (o.into m j)
  ];
  from = λ m i. elim i [
    | inl e ↦ p.from m (inl e)
    | inr j ↦ p.from m (inr (o.from m j))
  ];
}

ordered : (codes : List ℕ) → Ordered codes
ordered [] = record { types = []; rises = tt; into = λ m i. i; from = λ m i. i }
ordered (code ∷ codes) = let o = ordered codes in one_more code codes o (put code o.types o.rises)

pub ascending : (codes : List ℕ) → (types : List ℕ) × IsSortedSet codes types
ascending codes =
    let o = ordered codes in (
      o.types,
      record {
        order = IsStrictlyIncreasing-from_sorted o.types (sorted o.types o.rises);
        same = λ code. (
          (λ c. from_in code codes (o.into code (to_in code o.types c.0 c.1 c.2))),
          (λ c. from_in code o.types (o.from code (to_in code codes c.0 c.1 c.2))),
        );
      },
    )
