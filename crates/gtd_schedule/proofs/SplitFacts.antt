-- Schedules of ascending ranges of elements, one after the other, are one schedule.
use Rattle.std.proofs.Common.{◌≡◌, ◌∙◌, ap, refl, subst, arith, ◌<◌, ◌≤◌, ◌⊎◌, inl, inr, ◌↔◌, cond, Bool, true, false, ℕ}
use Rattle.std.proofs.Common.{List, [], ◌∷◌, ◌++◌, append_assoc, nat_lt, nat_le}
use Rattle.std.specs.Prelude.{Any, ℤ}
use Rattle.std.specs.List.{Contains, AllByRecursion, filter}
use Rattle.std.specs.List.Sorted.{IsStrictlySortedBy}
use Rattle.std.specs.Ordering.{nat_cmp}
use Rattle.std.specs.declared.cmp.Ordering.TheVariants.{Less}
use Rattle.std.proofs.lemmas.Bool.Decides.{nat_tests}
use Rattle.std.proofs.lemmas.List.Elements.{filter_passes}
use Rattle.std.proofs.lemmas.Map.Keys.{IsStrictlyIncreasing-from_sorted, sorted_from_strictly_increasing}
use Rattle.gtd_core.specs.declared.horizon.Horizon.{Horizon}
use Rattle.gtd_records.specs.facts.IndexFacts.{by_le}
use Rattle.gtd_rows.specs.facts.Rising.{AllAbove, In, Rises, from_in, to_in}
use Rattle.gtd_records.specs.Closing.{AreElements, Closes, IsOpen, Restriction}
use Rattle.gtd_rows.specs.declared.direction.Direction.{Direction}
use Rattle.gtd_rows.specs.declared.direction.Direction.TheVariants.{Positive, Negative}
use Rattle.gtd_report.specs.facts.SomeElements.{any_first, any_later, any_split, sorted}
use Rattle.gtd_report.specs.Putting.{AreElementLines, AreLinesOf}
use Rattle.gtd_schedule.specs.Schedule.{AreLines, IsSchedule, header_line}
use Rattle.gtd_schedule.specs.Split.{below, not_below}
use Rattle.gtd_core.specs.Seconds.{Interval}
use Rattle.gtd_core.specs.Whole.{whole}
use Rattle.gtd_eval.specs.Membership.{IsNormalOver}
use Rattle.gtd_spans.specs.facts.NormalFor.{normal-for, normal-of}

-- two sets of the same seconds have the same normal list
pub same_normal : (P Q : ℤ → Type 0) (horizon : Horizon) (xs : List Interval)
    → ((t : ℤ) → P t ↔ Q t) → IsNormalOver P horizon xs → IsNormalOver Q horizon xs
same_normal P Q horizon xs same n =
    normal-for Q (whole horizon).from (whole horizon).until xs (normal-of P (whole horizon).from (whole horizon).until xs n)
    (λ t. (
      (λ h. let i = n.inside t h in (i.0, i.1, (same t).0 i.2)),
      (λ i. n.complete t (i.0, i.1, (same t).1 i.2)),
    ))

-- ---- what is kept of a list

any_to : (P : Restriction → Type 0) (r : Restriction) (rs kept : List Restriction) (b : Bool) → (P r → b ≡ true)
    → (Any P rs → Any P kept)
    → Any P (r ∷ rs) → Any P (cond b (r ∷ kept) kept)
any_to P r rs kept true pass more a = elim (any_split P r rs a)
    [ inl p ↦ any_first P r kept p | inr h ↦ any_later P r kept (more h) ]
any_to P r rs kept false pass more a = elim (any_split P r rs a) [ inl p ↦ (let e = pass p in cc) | inr h ↦ more h ]

any_from : (P : Restriction → Type 0) (r : Restriction) (rs kept : List Restriction) (b : Bool) → (Any P kept → Any P rs)
    → Any P (cond b (r ∷ kept) kept) → Any P (r ∷ rs)
any_from P r rs kept true more a = elim (any_split P r kept a) [ inl p ↦ any_first P r rs p | inr h ↦ any_later P r rs (more h) ]
any_from P r rs kept false more a = any_later P r rs (more a)

module _ (test : Restriction → Bool) (P : Restriction → Type 0) where
  pub of_kept : (rs : List Restriction) → Any P (filter test rs) → Any P rs
  of_kept [] a = a
  of_kept (r ∷ rs) a = any_from P r rs (filter test rs) (test r) (of_kept rs) a

  pub to_kept : ((r : Restriction) → P r → test r ≡ true) → (rs : List Restriction) → Any P rs → Any P (filter test rs)
  to_kept pass [] a = a
  to_kept pass (r ∷ rs) a = any_to P r rs (filter test rs) (test r) (pass r) (to_kept pass rs) a

-- what is kept of an element passes
kept_passes : (test : Restriction → Bool) (rs : List Restriction) (n : ℕ)
    → Any (λ (r : Restriction). r.element ≡ n) (filter test rs)
    → (r : Restriction) × (test r ≡ true) × (r.element ≡ n)
kept_passes test rs n a =
    let p = filter_passes test rs a.0 a.1 a.2 in
    (a.1, subst (λ (r : Restriction). test r ≡ true) a.3 p, a.4)

-- ---- lists that rise

all_above : (n : ℕ) (xs : List ℕ) → AllByRecursion (λ y. nat_cmp n y ≡ Less) xs → AllAbove n xs
all_above n [] a = tt
all_above n (x ∷ xs) a = (less n x a.0, all_above n xs a.1)
  where
    less : (a b : ℕ) → nat_cmp a b ≡ Less → a < b
    less a b e = grind (arith, nat_tests)

rises : (xs : List ℕ) → IsStrictlySortedBy nat_cmp xs → Rises xs
unfolding IsStrictlySortedBy
rises [] s = tt
rises (x ∷ xs) s = (all_above x xs s.0, rises xs s.1)

above_both : (n : ℕ) (xs ys : List ℕ) → AllAbove n xs → AllAbove n ys → AllAbove n (xs ++ ys)
above_both n [] ys a b = b
above_both n (x ∷ xs) ys a b = (a.0, above_both n xs ys a.1 b)

above_all : (n k : ℕ) (ys : List ℕ) → n < k → ((m : ℕ) → In m ys → k ≤ m) → AllAbove n ys
above_all n k [] lt high = tt
above_all n k (y ∷ ys) lt high = ((let h = high y (inl refl) in omega arith), above_all n k ys lt (λ m i. high m (inr i)))

rises_both : (k : ℕ) (xs ys : List ℕ) → ((m : ℕ) → In m xs → m < k) → ((m : ℕ) → In m ys → k ≤ m) → Rises xs → Rises ys
    → Rises (xs ++ ys)
rises_both k [] ys low high r s = s
rises_both k (x ∷ xs) ys low high r s =
    (above_both x xs ys r.0 (above_all x k ys (low x (inl refl)) high), rises_both k xs ys (λ m i. low m (inr i)) high r.1 s)

in_both : (n : ℕ) (xs ys : List ℕ) → In n (xs ++ ys) → In n xs ⊎ In n ys
in_both n [] ys i = inr i
in_both n (x ∷ xs) ys (inl e) = inl (inl e)
in_both n (x ∷ xs) ys (inr i) = elim (in_both n xs ys i) [ inl j ↦ inl (inr j) | inr j ↦ inr j ]

in_first : (n : ℕ) (xs ys : List ℕ) → In n xs → In n (xs ++ ys)
in_first n [] ys i = absurd i
in_first n (x ∷ xs) ys (inl e) = inl e
in_first n (x ∷ xs) ys (inr i) = inr (in_first n xs ys i)

in_second : (n : ℕ) (xs ys : List ℕ) → In n ys → In n (xs ++ ys)
in_second n [] ys i = i
in_second n (x ∷ xs) ys i = inr (in_second n xs ys i)

in_of : (n : ℕ) (xs : List ℕ) → Contains xs n → In n xs
in_of n xs c = to_in n xs c.0 c.1 c.2

-- ---- the parts

pub low_passes : (k n m : ℕ) → m ≡ n → n < k → nat_lt m k ≡ true
low_passes k n m e lt = grind (arith, nat_tests)

pub high_passes : (k n m : ℕ) → m ≡ n → k ≤ n → nat_le k m ≡ true
high_passes k n m e le = grind (arith, nat_tests)

pub passes_low : (k n m : ℕ) → nat_lt m k ≡ true → m ≡ n → n < k
passes_low k n m t e = grind (arith, nat_tests)

pub passes_high : (k n m : ℕ) → nat_le k m ≡ true → m ≡ n → k ≤ n
passes_high k n m t e = grind (arith, nat_tests)

module _ (found : List Restriction) (vehicle : ℕ) (horizon : Horizon) where
  module _ (test : Restriction → Bool) where
    -- the lines of an element whose restrictions are all kept are those of the whole
    kept_lines : (element : ℕ) → ((r : Restriction) → r.element ≡ element → test r ≡ true)
        → (direction : Direction) (lines : List (List ℕ))
        → AreLines (filter test found) vehicle horizon element direction lines
        → AreLines found vehicle horizon element direction lines
    kept_lines element pass direction lines are = record {
      spans = are.spans;
      normal = same_normal (IsOpen (filter test found) element direction vehicle)
          (IsOpen found element direction vehicle) horizon are.spans
          (λ t. (
            (λ o c. o (to_kept test (Closes element direction vehicle t) (λ r h. pass r h.names) found c)),
            (λ o c. o (of_kept test (Closes element direction vehicle t) found c)),
          )) are.normal;
      each = are.each;
    }

    kept_element : (element : ℕ) → ((r : Restriction) → r.element ≡ element → test r ≡ true) → (lines : List (List ℕ))
        → AreElementLines (AreLines (filter test found) vehicle horizon element) lines
        → AreElementLines (AreLines found vehicle horizon element) lines
    kept_element element pass lines are = record {
      positive = are.positive;
      negative = are.negative;
      are_positive = kept_lines element pass Positive are.positive are.are_positive;
      are_negative = kept_lines element pass Negative are.negative are.are_negative;
      both = are.both;
    }

    kept_lines_of : (elements : List ℕ) → ((n : ℕ) → In n elements → (r : Restriction) → r.element ≡ n → test r ≡ true)
        → (lines : List (List ℕ))
        → AreLinesOf (AreLines (filter test found) vehicle horizon) elements lines
        → AreLinesOf (AreLines found vehicle horizon) elements lines
    kept_lines_of [] pass lines are = are
    kept_lines_of (e ∷ elements) pass lines are = (
      are.0,
      are.1,
      kept_element e (pass e (inl refl)) are.0 are.2,
      kept_lines_of elements (λ n i. pass n (inr i)) are.1 are.3,
      are.4,
    )

  -- the lines of elements, and of those after them
  lines_both : (xs ys : List ℕ) (a b : List (List ℕ)) → AreLinesOf (AreLines found vehicle horizon) xs a
      → AreLinesOf (AreLines found vehicle horizon) ys b
      → AreLinesOf (AreLines found vehicle horizon) (xs ++ ys) (a ++ b)
  lines_both [] ys a b p q = rw p q
  lines_both (x ∷ xs) ys a b p q =
      (p.0, p.1 ++ b, p.2, lines_both xs ys p.1 b p.3 q, ap (λ (l : List (List ℕ)). l ++ b) p.4 ∙ append_assoc p.0 p.1 b)

-- the elements of the one part are below the number, those of the other are not
low_elements : (found : List Restriction) (k : ℕ) (xs : List ℕ) → AreElements (below k found) xs → (m : ℕ) → In m xs → m < k
low_elements found k xs are m i =
    let a = (are.named m).0 (from_in m xs i) in
    let r = kept_passes (λ (r : Restriction). nat_lt r.element k) found m a in
    passes_low k m r.0.element r.1 r.2

high_elements : (found : List Restriction) (k : ℕ) (xs : List ℕ) → AreElements (not_below k found) xs → (m : ℕ) → In m xs → k ≤ m
high_elements found k xs are m i =
    let a = (are.named m).0 (from_in m xs i) in
    let r = kept_passes (λ (r : Restriction). nat_le k r.element) found m a in
    passes_high k m r.0.element r.1 r.2

both_elements : (found : List Restriction) (k : ℕ) (xs ys : List ℕ) → AreElements (below k found) xs
    → AreElements (not_below k found) ys
    → AreElements found (xs ++ ys)
both_elements found k xs ys p q =
    let r = rises_both k xs ys (low_elements found k xs p) (high_elements found k ys q)
    (rises xs (sorted_from_strictly_increasing xs p.ascending)) (rises ys (sorted_from_strictly_increasing ys q.ascending)) in
    record {
      ascending = IsStrictlyIncreasing-from_sorted (xs ++ ys) (sorted (xs ++ ys) r);
      named = λ n. (
        (λ c. elim (in_both n xs ys (in_of n (xs ++ ys) c)) [
          | inl i ↦ of_kept (λ (r : Restriction). nat_lt r.element k) (λ (r : Restriction). r.element ≡ n) found
              ((p.named n).0 (from_in n xs i))
          | inr i ↦ of_kept (λ (r : Restriction). nat_le k r.element) (λ (r : Restriction). r.element ≡ n) found
              ((q.named n).0 (from_in n ys i))
        ]),
        (λ a. from_in n (xs ++ ys) (by_le {P = In n (xs ++ ys)} k n
            (λ le. in_second n xs ys (in_of n ys ((q.named n).1
            (to_kept (λ (r : Restriction). nat_le k r.element) (λ (r : Restriction). r.element ≡ n)
            (λ r e. high_passes k n r.element e le) found a))))
            (λ lt. in_first n xs ys (in_of n xs ((p.named n).1
            (to_kept (λ (r : Restriction). nat_lt r.element k) (λ (r : Restriction). r.element ≡ n)
            (λ r e. low_passes k n r.element e lt) found a)))))),
      );
    }

-- the lines under a header
under : (a b : List (List ℕ)) → header_line ∷ a ≡ header_line ∷ b → a ≡ b
under a b e = ap rest e
  where
    rest : List (List ℕ) → List (List ℕ)
    rest [] = []
    rest (x ∷ xs) = xs

-- the schedules of the two parts are the schedule of the whole
pub schedule_in_parts : (found : List Restriction) (vehicle : ℕ) (horizon : Horizon) (k : ℕ) (a b : List (List ℕ))
    → IsSchedule (below k found) vehicle horizon (header_line ∷ a)
    → IsSchedule (not_below k found) vehicle horizon (header_line ∷ b)
    → IsSchedule found vehicle horizon (header_line ∷ (a ++ b))
schedule_in_parts found vehicle horizon k a b p q =
    let low = kept_lines_of found vehicle horizon (λ (r : Restriction). nat_lt r.element k) p.elements
    (λ n i r e. low_passes k n r.element e (low_elements found k p.elements p.named n i)) p.rest p.each in
    let high = kept_lines_of found vehicle horizon (λ (r : Restriction). nat_le k r.element) q.elements
    (λ n i r e. high_passes k n r.element e (high_elements found k q.elements q.named n i)) q.rest q.each in
    let first = under a p.rest p.whole in
    let second = under b q.rest q.whole in
    record {
      elements = p.elements ++ q.elements;
      named = both_elements found k p.elements q.elements p.named q.named;
      rest = p.rest ++ q.rest;
      each = lines_both found vehicle horizon p.elements q.elements p.rest q.rest low high;
      whole = rw (first, second) refl;
    }
