-- What changes between two files that are cut into two ranges of elements.
use Rattle.std.proofs.Common.{◌≡◌, ap, refl, subst, arith, ◌<◌, ◌≤◌, ◌⊎◌, inl, inr, ◌↔◌, ℕ, List, [], ◌∷◌, ◌++◌, append_assoc}
use Rattle.std.specs.Prelude.{Any, ℤ}
use Rattle.std.specs.List.{All, AllByRecursion, Contains}
use Rattle.std.specs.List.Sorted.{IsStrictlySortedBy}
use Rattle.std.specs.Ordering.{nat_cmp}
use Rattle.std.specs.declared.cmp.Ordering.TheVariants.{Less}
use Rattle.std.proofs.lemmas.Bool.Decides.{nat_tests}
use Rattle.std.proofs.lemmas.Map.Keys.{IsStrictlyIncreasing-from_sorted, sorted_from_strictly_increasing}
use Rattle.gtd_core.specs.Seconds.{Interval}
use Rattle.gtd_core.specs.Whole.{whole}
use Rattle.gtd_core.specs.declared.horizon.Horizon.{Horizon}
use Rattle.gtd_eval.specs.Membership.{IsNormalOver}
use Rattle.gtd_records.specs.Closing.{AreElements, Closes, IsClosed, Restriction}
use Rattle.gtd_rows.specs.declared.direction.Direction.{Direction}
use Rattle.gtd_rows.specs.declared.direction.Direction.TheVariants.{Positive, Negative}
use Rattle.gtd_rows.specs.facts.Rising.{AllAbove, In, Rises, from_in}
use Rattle.gtd_report.specs.Putting.{AreElementLines, AreLinesOf}
use Rattle.gtd_report.specs.facts.SomeElements.{sorted}
use Rattle.gtd_schedule.specs.Split.{HaveSameRows, IsSplitAt}
use Rattle.gtd_spans.specs.facts.NormalFor.{normal-for, normal-of}
use Rattle.gtd_changes.specs.Changes.{AreLines, IsChanges, WasClosed, WasOpened, header_line}
use Rattle.gtd_changes.proofs.SortedNumbers.{any_either, any_left, any_right, in_both, in_first, in_of, in_second}

-- two sets of the same seconds have the same normal list
same_normal : (P Q : ℤ → Type 0) (horizon : Horizon) (xs : List Interval) → ((t : ℤ) → P t ↔ Q t) → IsNormalOver P horizon xs
    → IsNormalOver Q horizon xs
same_normal P Q horizon xs same n =
    normal-for Q (whole horizon).from (whole horizon).until xs (normal-of P (whole horizon).from (whole horizon).until xs n)
    (λ t. (
      (λ h. let i = n.inside t h in (i.0, i.1, (same t).0 i.2)),
      (λ i. n.complete t (i.0, i.1, (same t).1 i.2)),
    ))

any_of : (P : Restriction → Type 0) (xs ys : List Restriction) → ((r : Restriction) → Contains xs r → Contains ys r) → Any P xs
    → Any P ys
any_of P xs ys into a = let c = into a.1 (a.0, a.2, a.3) in (c.0, a.1, c.1, c.2, a.4)

all_at : (P Q : Restriction → Type 0) (xs : List Restriction) → All Q xs → (a : Any P xs) → Q a.1
all_at P Q xs all a = subst Q a.3 (all a.0 a.1 a.2)

-- ---- a file in two ranges

module _ (found low high : List Restriction) (same : HaveSameRows found (low ++ high)) (k : ℕ) (split : IsSplitAt k low high)
    (P : Restriction → Type 0) where
  pub low_found : Any P low → Any P found
  low_found a = any_of P (low ++ high) found (λ r. (same r).1) (any_left P low high a)

  pub high_found : Any P high → Any P found
  high_found a = any_of P (low ++ high) found (λ r. (same r).1) (any_right P low high a)

  pub in_a_part : Any P found → Any P low ⊎ Any P high
  in_a_part a = any_either P low high (any_of P found (low ++ high) (λ r. (same r).0) a)

  pub found_low : (n : ℕ) → n < k → ((r : Restriction) → P r → r.element ≡ n) → Any P found → Any P low
  found_low n lt names a = elim (in_a_part a) [
    | inl h ↦ h
    | inr h ↦
        let le = all_at P (λ (r : Restriction). k ≤ r.element) high split.high h in
        let e = names h.1 h.4 in
        absurd (omega (arith, le, e, lt))
  ]

  pub found_high : (n : ℕ) → k ≤ n → ((r : Restriction) → P r → r.element ≡ n) → Any P found → Any P high
  found_high n le names a = elim (in_a_part a) [
    | inl h ↦
        let lt = all_at P (λ (r : Restriction). r.element < k) low split.low h in
        let e = names h.1 h.4 in
        absurd (omega (arith, lt, e, le))
    | inr h ↦ h
  ]

-- ---- the lines of an element that two pairs of files close at the same seconds

module _ (old new was is : List Restriction) (vehicle : ℕ) (horizon : Horizon) (element : ℕ) where
  abbrev CloseAlike : Direction → Type 0
  CloseAlike direction = (t : ℤ)
      → (IsClosed old element direction vehicle t ↔ IsClosed was element direction vehicle t)
      × (IsClosed new element direction vehicle t ↔ IsClosed is element direction vehicle t)

  alike_lines : (direction : Direction) → CloseAlike direction → (lines : List (List ℕ))
      → AreLines old new vehicle horizon element direction lines → AreLines was is vehicle horizon element direction lines
  alike_lines direction alike lines are = record {
    changes = are.changes;
    opened = same_normal (WasOpened old new element direction vehicle) (WasOpened was is element direction vehicle) horizon _
        (λ t. (
          (λ h. ((alike t).0.0 h.0, (λ c. h.1 ((alike t).1.1 c)))),
          (λ h. ((alike t).0.1 h.0, (λ c. h.1 ((alike t).1.0 c)))),
        )) are.opened;
    closed = same_normal (WasClosed old new element direction vehicle) (WasClosed was is element direction vehicle) horizon _
        (λ t. (
          (λ h. ((λ c. h.0 ((alike t).0.1 c)), (alike t).1.0 h.1)),
          (λ h. ((λ c. h.0 ((alike t).0.0 c)), (alike t).1.1 h.1)),
        )) are.closed;
    order = are.order;
    each = are.each;
  }

  pub alike_element : ((direction : Direction) → CloseAlike direction) → (lines : List (List ℕ))
      → AreElementLines (AreLines old new vehicle horizon element) lines
      → AreElementLines (AreLines was is vehicle horizon element) lines
  alike_element alike lines are = record {
    positive = are.positive;
    negative = are.negative;
    are_positive = alike_lines Positive (alike Positive) are.positive are.are_positive;
    are_negative = alike_lines Negative (alike Negative) are.negative are.are_negative;
    both = are.both;
  }

-- ---- lists of lines and of elements, one after the other

lines_both : (Lines : ℕ → Direction → List (List ℕ) → Type 0) (xs ys : List ℕ) (a b : List (List ℕ)) → AreLinesOf Lines xs a
    → AreLinesOf Lines ys b → AreLinesOf Lines (xs ++ ys) (a ++ b)
lines_both Lines [] ys a b p q = rw p q
lines_both Lines (x ∷ xs) ys a b p q = (
  p.0,
  p.1 ++ b,
  p.2,
  lines_both Lines xs ys p.1 b p.3 q,
  rw (p.4) (append_assoc p.0 p.1 b),
)

lines_as : (Lines Others : ℕ → Direction → List (List ℕ) → Type 0) (xs : List ℕ)
    → ((n : ℕ) → In n xs → (a : List (List ℕ)) → AreElementLines (Lines n) a → AreElementLines (Others n) a)
    → (a : List (List ℕ)) → AreLinesOf Lines xs a → AreLinesOf Others xs a
lines_as Lines Others [] into a p = p
lines_as Lines Others (x ∷ xs) into a p = (
  p.0,
  p.1,
  into x (inl refl) p.0 p.2,
  lines_as Lines Others xs (λ n i. into n (inr i)) p.1 p.3,
  p.4,
)

all_above : (n : ℕ) (xs : List ℕ) → AllByRecursion (λ y. nat_cmp n y ≡ Less) xs → AllAbove n xs
all_above n [] a = tt
all_above n (x ∷ xs) a = (less n x a.0, all_above n xs a.1)
  where
    less : (a b : ℕ) → nat_cmp a b ≡ Less → a < b
    less a b e = grind (arith, nat_tests)

rises : (xs : List ℕ) → IsStrictlySortedBy nat_cmp xs → Rises xs
unfolding IsStrictlySortedBy
rises [] s = tt
rises (x ∷ xs) s = (all_above x xs s.0, rises xs s.1)

above_both : (n : ℕ) (xs ys : List ℕ) → AllAbove n xs → AllAbove n ys → AllAbove n (xs ++ ys)
above_both n [] ys a b = b
above_both n (x ∷ xs) ys a b = (a.0, above_both n xs ys a.1 b)

above_all : (n k : ℕ) (ys : List ℕ) → n < k → ((m : ℕ) → In m ys → k ≤ m) → AllAbove n ys
above_all n k [] lt high = tt
above_all n k (y ∷ ys) lt high = ((let h = high y (inl refl) in omega arith), above_all n k ys lt (λ m i. high m (inr i)))

rises_both : (k : ℕ) (xs ys : List ℕ) → ((m : ℕ) → In m xs → m < k) → ((m : ℕ) → In m ys → k ≤ m) → Rises xs → Rises ys
    → Rises (xs ++ ys)
rises_both k [] ys low high r s = s
rises_both k (x ∷ xs) ys low high r s =
    (above_both x xs ys r.0 (above_all x k ys (low x (inl refl)) high), rises_both k xs ys (λ m i. low m (inr i)) high r.1 s)

-- ---- the text of two ranges

same_rest : (header : List ℕ) (a b : List (List ℕ)) → header ∷ a ≡ header ∷ b → a ≡ b
same_rest header a b e = ap rest e
  where
    rest : List (List ℕ) → List (List ℕ)
    rest [] = []
    rest (x ∷ xs) = xs

module _ (old new old_low old_high new_low new_high : List Restriction) (k vehicle : ℕ) (horizon : Horizon)
    (olds : HaveSameRows old (old_low ++ old_high)) (news : HaveSameRows new (new_low ++ new_high))
    (old_split : IsSplitAt k old_low old_high) (new_split : IsSplitAt k new_low new_high) where
  low_alike : (n : ℕ) → n < k → (direction : Direction) → CloseAlike old_low new_low old new vehicle horizon n direction
  low_alike n lt direction t =
      let P = Closes n direction vehicle t in (
        (
          low_found old old_low old_high olds k old_split P,
          found_low old old_low old_high olds k old_split P n lt (λ r c. c.names),
        ),
        (
          low_found new new_low new_high news k new_split P,
          found_low new new_low new_high news k new_split P n lt (λ r c. c.names),
        ),
      )

  high_alike : (n : ℕ) → k ≤ n → (direction : Direction) → CloseAlike old_high new_high old new vehicle horizon n direction
  high_alike n le direction t =
      let P = Closes n direction vehicle t in (
        (
          high_found old old_low old_high olds k old_split P,
          found_high old old_low old_high olds k old_split P n le (λ r c. c.names),
        ),
        (
          high_found new new_low new_high news k new_split P,
          found_high new new_low new_high news k new_split P n le (λ r c. c.names),
        ),
      )

  module _ (xs ys : List ℕ) (low : AreElements (old_low ++ new_low) xs) (high : AreElements (old_high ++ new_high) ys) where
    abbrev Names : ℕ → Restriction → Type 0
    Names n r = r.element ≡ n

    below : (n : ℕ) → In n xs → n < k
    below n i = elim (any_either (Names n) old_low new_low ((low.named n).0 (from_in n xs i))) [
      | inl h ↦
          let lt = all_at (Names n) (λ (r : Restriction). r.element < k) old_low old_split.low h in
          let e = h.4 in
          omega (arith, lt, e)
      | inr h ↦
          let lt = all_at (Names n) (λ (r : Restriction). r.element < k) new_low new_split.low h in
          let e = h.4 in
          omega (arith, lt, e)
    ]

    not_below : (n : ℕ) → In n ys → k ≤ n
    not_below n i = elim (any_either (Names n) old_high new_high ((high.named n).0 (from_in n ys i))) [
      | inl h ↦
          let le = all_at (Names n) (λ (r : Restriction). k ≤ r.element) old_high old_split.high h in
          let e = h.4 in
          omega (arith, le, e)
      | inr h ↦
          let le = all_at (Names n) (λ (r : Restriction). k ≤ r.element) new_high new_split.high h in
          let e = h.4 in
          omega (arith, le, e)
    ]

    named_low : (n : ℕ) → Any (Names n) (old_low ++ new_low) → Any (Names n) (old ++ new)
    named_low n a = elim (any_either (Names n) old_low new_low a) [
      | inl h ↦ any_left (Names n) old new (low_found old old_low old_high olds k old_split (Names n) h)
      | inr h ↦ any_right (Names n) old new (low_found new new_low new_high news k new_split (Names n) h)
    ]

    named_high : (n : ℕ) → Any (Names n) (old_high ++ new_high) → Any (Names n) (old ++ new)
    named_high n a = elim (any_either (Names n) old_high new_high a) [
      | inl h ↦ any_left (Names n) old new (high_found old old_low old_high olds k old_split (Names n) h)
      | inr h ↦ any_right (Names n) old new (high_found new new_low new_high news k new_split (Names n) h)
    ]

    listed : (n : ℕ) → Any (Names n) (old_low ++ new_low) ⊎ Any (Names n) (old_high ++ new_high) → Contains (xs ++ ys) n
    listed n (inl a) = from_in n (xs ++ ys) (in_first n xs ys (in_of n xs ((low.named n).1 a)))
    listed n (inr a) = from_in n (xs ++ ys) (in_second n xs ys (in_of n ys ((high.named n).1 a)))

    of_parts : (n : ℕ) → Any (Names n) (old ++ new)
        → Any (Names n) (old_low ++ new_low) ⊎ Any (Names n) (old_high ++ new_high)
    of_parts n a = elim (any_either (Names n) old new a) [
      | inl h ↦ elim (in_a_part old old_low old_high olds k old_split (Names n) h) [
        | inl l ↦ inl (any_left (Names n) old_low new_low l)
        | inr u ↦ inr (any_left (Names n) old_high new_high u)
      ]
      | inr h ↦ elim (in_a_part new new_low new_high news k new_split (Names n) h) [
        | inl l ↦ inl (any_right (Names n) old_low new_low l)
        | inr u ↦ inr (any_right (Names n) old_high new_high u)
      ]
    ]

    both_elements : AreElements (old ++ new) (xs ++ ys)
    both_elements = record {
      ascending = IsStrictlyIncreasing-from_sorted (xs ++ ys)
          (sorted (xs ++ ys)
          (rises_both k xs ys below not_below (rises xs (sorted_from_strictly_increasing xs low.ascending))
          (rises ys (sorted_from_strictly_increasing ys high.ascending))));
      named = λ n. (
        (λ c. elim (in_both n xs ys (in_of n (xs ++ ys) c)) [
          | inl i ↦ named_low n ((low.named n).0 (from_in n xs i))
          | inr i ↦ named_high n ((high.named n).0 (from_in n ys i))
        ]),
        (λ a. listed n (of_parts n a)),
      );
    }

    both_lines : (a b : List (List ℕ)) → AreLinesOf (AreLines old_low new_low vehicle horizon) xs a
        → AreLinesOf (AreLines old_high new_high vehicle horizon) ys b
        → AreLinesOf (AreLines old new vehicle horizon) (xs ++ ys) (a ++ b)
    both_lines a b p q =
        lines_both (AreLines old new vehicle horizon) xs ys a b
        (lines_as (AreLines old_low new_low vehicle horizon) (AreLines old new vehicle horizon) xs
        (λ n i. alike_element old_low new_low old new vehicle horizon n (low_alike n (below n i))) a p)
        (lines_as (AreLines old_high new_high vehicle horizon) (AreLines old new vehicle horizon) ys
        (λ n i. alike_element old_high new_high old new vehicle horizon n (high_alike n (not_below n i))) b q)

  pub changes_of_two : (a b : List (List ℕ)) → IsChanges old_low new_low vehicle horizon (header_line ∷ a)
      → IsChanges old_high new_high vehicle horizon (header_line ∷ b)
      → IsChanges old new vehicle horizon (header_line ∷ (a ++ b))
  changes_of_two a b p q = record {
    elements = p.elements ++ q.elements;
    named = both_elements p.elements q.elements p.named q.named;
    rest = p.rest ++ q.rest;
    each = both_lines p.elements q.elements p.named q.named p.rest q.rest p.each q.each;
    whole = rw (same_rest header_line a p.rest p.whole, same_rest header_line b q.rest q.whole) refl;
  }
