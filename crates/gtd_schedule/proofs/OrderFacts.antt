-- A schedule does not depend on the order of the rows, and rows in ascending ranges of elements have it in parts.
use Rattle.std.proofs.Common.{◌≡◌, sym, ap, refl, subst, arith, ◌<◌, ◌≤◌, ◌⊎◌, inl, inr, ◌↔◌, Bool, true, ℕ, List, []}
use Rattle.std.proofs.Common.{◌∷◌, ◌++◌}
use Rattle.std.specs.Prelude.{Any, flat_map, nat_le, nat_lt}
use Rattle.std.specs.List.{All, Contains, filter}
use Rattle.std.specs.List.Sorted.{IsPermutation}
use Rattle.std.proofs.lemmas.List.Elements.{filter_passes}
use Rattle.std.proofs.lemmas.List.Sorted.{Contains-permutation, IsPermutation-sym}
use Rattle.std.proofs.lemmas.Map.Keys.{IsStrictlyIncreasing-from_sorted}
use Rattle.gtd_core.specs.declared.horizon.Horizon.{Horizon}
use Rattle.gtd_records.specs.Closing.{AreElements, Closes, IsOpen, Restriction}
use Rattle.gtd_rows.specs.declared.direction.Direction.{Direction}
use Rattle.gtd_rows.specs.declared.direction.Direction.TheVariants.{Positive, Negative}
use Rattle.gtd_report.specs.facts.SomeElements.{any_first, any_later, any_none, any_split, sorted}
use Rattle.gtd_report.specs.Putting.{AreLinesOf}
use Rattle.gtd_schedule.proofs.SplitFacts.{high_passes, low_passes, of_kept, passes_high, passes_low, same_normal}
use Rattle.gtd_schedule.proofs.SplitFacts.{schedule_in_parts, to_kept}
use Rattle.gtd_schedule.specs.Schedule.{AreLines, IsSchedule, header_line}
use Rattle.gtd_schedule.specs.Split.{AreRanges, AreSchedules, HaveSameRows, IsSplitAt, below, not_below, of_parts}

-- ---- the same rows

any_same : (P : Restriction → Type 0) (one two : List Restriction) → HaveSameRows one two → Any P one → Any P two
any_same P one two same a = let c = (same a.1).0 (a.0, a.2, a.3) in (c.0, a.1, c.1, c.2, a.4)

same_back : (one two : List Restriction) → HaveSameRows one two → HaveSameRows two one
same_back one two same = λ r. ((same r).1, (same r).0)

same_on : (one two three : List Restriction) → HaveSameRows one two → HaveSameRows two three → HaveSameRows one three
same_on one two three p q = λ r. ((λ c. (q r).0 ((p r).0 c)), (λ c. (p r).1 ((q r).1 c)))

module _ (one two : List Restriction) (same : HaveSameRows one two) (vehicle : ℕ) (horizon : Horizon) where
  same_lines : (element : ℕ) (direction : Direction) (lines : List (List ℕ))
      → AreLines one vehicle horizon element direction lines → AreLines two vehicle horizon element direction lines
  same_lines element direction lines are = record {
    spans = are.spans;
    normal = same_normal (IsOpen one element direction vehicle) (IsOpen two element direction vehicle) horizon are.spans
        (λ t. (
          (λ o c. o (any_same (Closes element direction vehicle t) two one (same_back one two same) c)),
          (λ o c. o (any_same (Closes element direction vehicle t) one two same c)),
        )) are.normal;
    each = are.each;
  }

  same_lines_of : (elements : List ℕ) (lines : List (List ℕ)) → AreLinesOf (AreLines one vehicle horizon) elements lines
      → AreLinesOf (AreLines two vehicle horizon) elements lines
  same_lines_of [] lines are = are
  same_lines_of (e ∷ elements) lines are = (
    are.0,
    are.1,
    record {
      positive = are.2.positive;
      negative = are.2.negative;
      are_positive = same_lines e Positive are.2.positive are.2.are_positive;
      are_negative = same_lines e Negative are.2.negative are.2.are_negative;
      both = are.2.both;
    },
    same_lines_of elements are.1 are.3,
    are.4,
  )

  same_elements : (elements : List ℕ) → AreElements one elements → AreElements two elements
  same_elements elements are = record {
    ascending = are.ascending;
    named = λ n. (
      (λ c. any_same (λ (r : Restriction). r.element ≡ n) one two same ((are.named n).0 c)),
      (λ a. (are.named n).1 (any_same (λ (r : Restriction). r.element ≡ n) two one (same_back one two same) a)),
    );
  }

  schedule_as : (lines : List (List ℕ)) → IsSchedule one vehicle horizon lines → IsSchedule two vehicle horizon lines
  schedule_as lines is = record {
    elements = is.elements;
    named = same_elements is.elements is.named;
    rest = is.rest;
    each = same_lines_of is.elements is.rest is.each;
    whole = is.whole;
  }

-- the same rows have the same schedule
pub same_schedule : (one two : List Restriction) (vehicle : ℕ) (horizon : Horizon) (lines : List (List ℕ))
    → HaveSameRows one two → IsSchedule one vehicle horizon lines → IsSchedule two vehicle horizon lines
same_schedule one two vehicle horizon lines same is = schedule_as one two same vehicle horizon lines is

-- and so have rows in another order
pub permuted_schedule : (one two : List Restriction) (vehicle : ℕ) (horizon : Horizon) (lines : List (List ℕ))
    → IsPermutation one two → IsSchedule one vehicle horizon lines ↔ IsSchedule two vehicle horizon lines
permuted_schedule one two vehicle horizon lines moved =
    let same : HaveSameRows one two =
    λ r. (Contains-permutation one two r moved, Contains-permutation two one r (IsPermutation-sym one two moved)) in (
      (λ is. same_schedule one two vehicle horizon lines same is),
      (λ is. same_schedule two one vehicle horizon lines (same_back one two same) is),
    )

-- ---- a restriction of a list

abbrev Is : Restriction → Restriction → Type 0
Is r s = s ≡ r

to_any : (r : Restriction) (xs : List Restriction) → Contains xs r → Any (Is r) xs
to_any r xs c = (c.0, r, c.1, c.2, refl)

from_any : (r : Restriction) (xs : List Restriction) → Any (Is r) xs → Contains xs r
from_any r xs a = subst (λ (s : Restriction). Contains xs s) a.4 (a.0, a.2, a.3)

any_both : (P : Restriction → Type 0) (xs ys : List Restriction) → Any P (xs ++ ys) → Any P xs ⊎ Any P ys
any_both P [] ys a = inr a
any_both P (x ∷ xs) ys a =
    elim (any_split P x (xs ++ ys) a) [
      | inl p ↦ inl (any_first P x xs p)
      | inr h ↦ elim (any_both P xs ys h) [ inl k ↦ inl (any_later P x xs k) | inr k ↦ inr k ]
    ]

any_left : (P : Restriction → Type 0) (xs ys : List Restriction) → Any P xs → Any P (xs ++ ys)
any_left P [] ys a = absurd (any_none P a)
any_left P (x ∷ xs) ys a =
    elim (any_split P x xs a) [
      | inl p ↦ any_first P x (xs ++ ys) p
      | inr h ↦ any_later P x (xs ++ ys) (any_left P xs ys h)
    ]

any_right : (P : Restriction → Type 0) (xs ys : List Restriction) → Any P ys → Any P (xs ++ ys)
any_right P [] ys a = a
any_right P (x ∷ xs) ys a = any_later P x (xs ++ ys) (any_right P xs ys a)

of_all : (P : Restriction → Type 0) (r : Restriction) (xs : List Restriction) → All P xs → Any (Is r) xs → P r
of_all P r xs all a = subst P a.4 (subst P a.3 (all a.0 a.1 a.2))

kept_test : (test : Restriction → Bool) (r : Restriction) (xs : List Restriction) → Any (Is r) (filter test xs) → test r ≡ true
kept_test test r xs a =
    subst (λ (s : Restriction). test s ≡ true) a.4
    (subst (λ (s : Restriction). test s ≡ true) a.3 (filter_passes test xs a.0 a.1 a.2))

-- ---- two parts

module _ (found one two : List Restriction) (same : HaveSameRows found (one ++ two)) (k : ℕ) (split : IsSplitAt k one two) where
  whole_any : (r : Restriction) → Any (Is r) (one ++ two) → Any (Is r) found
  whole_any r a = to_any r found ((same r).1 (from_any r (one ++ two) a))

  parts_any : (r : Restriction) → Any (Is r) found → Any (Is r) one ⊎ Any (Is r) two
  parts_any r a = any_both (Is r) one two (to_any r (one ++ two) ((same r).0 (from_any r found a)))

  into_low : (r : Restriction) → Any (Is r) one → Any (Is r) (below k found)
  into_low r a =
      let lt = of_all (λ (s : Restriction). s.element < k) r one split.low a in
      to_kept (λ (s : Restriction). nat_lt s.element k) (Is r)
      (λ s e. low_passes k r.element s.element (ap (λ (q : Restriction). q.element) e) lt) found
      (whole_any r (any_left (Is r) one two a))

  from_low : (r : Restriction) → Any (Is r) (below k found) → Any (Is r) one
  from_low r a =
      let lt = passes_low k r.element r.element (kept_test (λ (s : Restriction). nat_lt s.element k) r found a) refl in
      elim (parts_any r (of_kept (λ (s : Restriction). nat_lt s.element k) (Is r) found a)) [
        | inl h ↦ h
        | inr h ↦ (let le = of_all (λ (s : Restriction). k ≤ s.element) r two split.high h in absurd (omega (arith, le, lt)))
      ]

  into_high : (r : Restriction) → Any (Is r) two → Any (Is r) (not_below k found)
  into_high r a =
      let le = of_all (λ (s : Restriction). k ≤ s.element) r two split.high a in
      to_kept (λ (s : Restriction). nat_le k s.element) (Is r)
      (λ s e. high_passes k r.element s.element (ap (λ (q : Restriction). q.element) e) le) found
      (whole_any r (any_right (Is r) one two a))

  from_high : (r : Restriction) → Any (Is r) (not_below k found) → Any (Is r) two
  from_high r a =
      let le = passes_high k r.element r.element (kept_test (λ (s : Restriction). nat_le k s.element) r found a) refl in
      elim (parts_any r (of_kept (λ (s : Restriction). nat_le k s.element) (Is r) found a)) [
        | inl h ↦ (let lt = of_all (λ (s : Restriction). s.element < k) r one split.low h in absurd (omega (arith, le, lt)))
        | inr h ↦ h
      ]

  low_same : HaveSameRows one (below k found)
  low_same = λ r. (
    (λ c. from_any r (below k found) (into_low r (to_any r one c))),
    (λ c. from_any r one (from_low r (to_any r (below k found) c))),
  )

  high_same : HaveSameRows two (not_below k found)
  high_same = λ r. (
    (λ c. from_any r (not_below k found) (into_high r (to_any r two c))),
    (λ c. from_any r two (from_high r (to_any r (not_below k found) c))),
  )

-- two ranges, the one below the other
pub schedule_of_two : (found one two : List Restriction) (vehicle : ℕ) (horizon : Horizon) (k : ℕ) (a b : List (List ℕ))
    → HaveSameRows found (one ++ two) → IsSplitAt k one two → IsSchedule one vehicle horizon (header_line ∷ a)
    → IsSchedule two vehicle horizon (header_line ∷ b) → IsSchedule found vehicle horizon (header_line ∷ (a ++ b))
schedule_of_two found one two vehicle horizon k a b same split p q =
    schedule_in_parts found vehicle horizon k a b
    (same_schedule one (below k found) vehicle horizon (header_line ∷ a) (low_same found one two same k split) p)
    (same_schedule two (not_below k found) vehicle horizon (header_line ∷ b) (high_same found one two same k split) q)

-- ---- many parts

no_schedule : (found : List Restriction) (vehicle : ℕ) (horizon : Horizon) → HaveSameRows found []
    → IsSchedule found vehicle horizon (header_line ∷ [])
no_schedule found vehicle horizon same =
    same_schedule [] found vehicle horizon (header_line ∷ []) (same_back found [] same) (record {
      elements = [];
      named = record {
        ascending = IsStrictlyIncreasing-from_sorted [] (sorted [] tt);
        named = λ n. (
          (λ c. absurd (let l = c.1 in omega arith)),
          (λ a. absurd (any_none (λ (r : Restriction). r.element ≡ n) a)),
        );
      };
      rest = [];
      each = refl;
      whole = refl;
    })

same_self : (xs : List Restriction) → HaveSameRows xs xs
same_self xs = λ r. ((λ c. c), (λ c. c))

pub schedule_of_parts : (found : List Restriction) (parts : List (List Restriction)) (vehicle : ℕ) (horizon : Horizon)
    (texts : List (List (List ℕ))) → HaveSameRows found (of_parts parts) → AreRanges parts
    → AreSchedules parts vehicle horizon texts
    → IsSchedule found vehicle horizon (header_line ∷ flat_map (λ lines. lines) texts)
schedule_of_parts found [] vehicle horizon texts same ranges are = rw are (no_schedule found vehicle horizon same)
schedule_of_parts found (part ∷ parts) vehicle horizon texts same ranges are =
    let rest = schedule_of_parts (of_parts parts) parts vehicle horizon are.1 (same_self (of_parts parts)) ranges.1 are.3 in
    subst (λ (t : List (List (List ℕ))). IsSchedule found vehicle horizon (header_line ∷ flat_map (λ lines. lines) t))
    (sym are.4)
    (schedule_of_two found part (of_parts parts) vehicle horizon ranges.0.0 are.0 (flat_map (λ lines. lines) are.1) same
    ranges.0.1 are.2 rest)
