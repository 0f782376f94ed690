-- A text by elements is one text, in parts.
use Rattle.std.proofs.Common.{◌≡◌, ◌∙◌, ◌≤◌, sym, ap, refl, subst, arith, map, ℕ, List, [], ◌∷◌, ◌++◌, length, Option}
use Rattle.std.specs.Prelude.{Result, Ok, Err}
use Rattle.std.specs.Bool.{Decides}
use Rattle.std.specs.Ordering.{eq_by_cmp, nat_cmp}
use Rattle.std.proofs.lemmas.Bool.Decides.{nat_tests}
use Rattle.std.proofs.lemmas.Cmp.{eq_by_cmp_equiv, nat_cmp_total}
use Rattle.std.proofs.lemmas.List.{length-map}
use Rattle.std.proofs.lemmas.Map.Keys.{IsDistinct-from_sorted, sorted_from_strictly_increasing}
use Rattle.std.proofs.lemmas.Map.Made.{is_member-Decides, length-le_from_is_member}
use Rattle.gtd_records.specs.facts.IndexFacts.{map_from_any}
use Rattle.gtd_rows.specs.facts.Rising.{one_list}
use Rattle.gtd_records.specs.Closing.{AreElements, Restriction}
use Rattle.gtd_rows.specs.declared.direction.Direction.{Direction}
use Rattle.gtd_rows.specs.declared.direction.Direction.TheVariants.{Positive, Negative}
use Rattle.gtd_report.specs.facts.TextFacts.{Then, texts_as, texts_cut, texts_then}
use Rattle.gtd_report.specs.Putting.{AreElementLines, AreLinesOf, IsByElement, IsOne, IsOneEach, PutsText}
use Rattle.gtd_report.specs.declared.output.Progress.{Progress}
use Rattle.gtd_report.specs.declared.output.Stop.{Stop}

-- restrictions name one list of elements
pub one_elements : (found : List Restriction) (a b : List ℕ) → AreElements found a → AreElements found b → a ≡ b
one_elements found a b p q =
    one_list a b p.ascending q.ascending
    (λ n h. (q.named n).1 ((p.named n).0 h))
    (λ n h. (p.named n).1 ((q.named n).0 h))

pub same_decides : (a b : ℕ) → Decides (eq_by_cmp nat_cmp a b) (a ≡ b)
same_decides a b = grind (arith, nat_tests)

-- and no more elements than there are restrictions
pub few_elements : (found : List Restriction) (elements : List ℕ) → AreElements found elements → length elements ≤ length found
few_elements found elements are =
    let numbers = map (λ (r : Restriction). r.element) found in
    let distinct = IsDistinct-from_sorted nat_cmp elements (sorted_from_strictly_increasing elements are.ascending) in
    let few : length elements ≤ length numbers =
    length-le_from_is_member (eq_by_cmp_equiv nat_cmp_total) elements numbers distinct
    (λ n is. let a = (are.named n).0 ((is_member-Decides same_decides elements n).0 is) in
    (is_member-Decides same_decides numbers n).1 (map_from_any (λ (r : Restriction). r.element) found a.0 n a.1 a.2 a.3 a.4)) in
    rw (length-map found (λ (r : Restriction). r.element)) at few

module _ (AreLines : ℕ → Direction → List (List ℕ) → Type 0) where
  -- the lines of an element are those of one direction and then of the other
  pub element_lines : (element : ℕ) (lines : List (List ℕ))
      → Then (AreLines element Positive) (AreLines element Negative) lines → AreElementLines (AreLines element) lines
  element_lines element lines parts =
      record { positive = parts.0; negative = parts.1; are_positive = parts.2; are_negative = parts.3; both = parts.4 }

  pub element_parts : (element : ℕ) (lines : List (List ℕ))
      → AreElementLines (AreLines element) lines → Then (AreLines element Positive) (AreLines element Negative) lines
  element_parts element lines are = (are.positive, are.negative, are.are_positive, are.are_negative, are.both)

  -- the putting stopped within the lines of the first direction
  pub both_cut : (element : ℕ) (x : Stop) (a b : Option (List ℕ)) (p q : Progress)
      → PutsText (AreLines element Positive) (Err x) a b p q → PutsText (AreElementLines (AreLines element)) (Err x) a b p q
  both_cut element x a b p q put =
      texts_as (Then (AreLines element Positive) (AreLines element Negative)) (AreElementLines (AreLines element)) (Err x) a b p q
      (element_lines element) (element_parts element)
      (texts_cut (AreLines element Positive) (AreLines element Negative) x a b p q put)

  module _ (one : IsOneEach AreLines) where
    -- the lines of the first direction were put, and then those of the second
    pub both_put : (element : ℕ) (r : Result (Unit {0}) Stop) (a b c : Option (List ℕ)) (p q s : Progress)
        → PutsText (AreLines element Positive) (Ok tt) a b p q → PutsText (AreLines element Negative) r b c q s
        → PutsText (AreElementLines (AreLines element)) r a c p s
    both_put element r a b c p q s put then =
        texts_as (Then (AreLines element Positive) (AreLines element Negative)) (AreElementLines (AreLines element)) r a c p s
        (element_lines element) (element_parts element)
        (texts_then (AreLines element Positive) (AreLines element Negative) r a b c p q s (one element Positive) put then)

    -- an element has one list of lines
    pub one_element_lines : (element : ℕ) → IsOne (AreElementLines (AreLines element))
    one_element_lines element a b p q =
        let x = one element Positive p.positive q.positive p.are_positive q.are_positive in
        let y = one element Negative p.negative q.negative p.are_negative q.are_negative in
        p.both ∙ rw (x, y) refl ∙ sym q.both

    -- so have elements
    pub one_lines_of : (elements : List ℕ) → IsOne (AreLinesOf AreLines elements)
    one_lines_of [] a b p q = p ∙ sym q
    one_lines_of (e ∷ elements) a b p q =
        let x = one_element_lines e p.0 q.0 p.2 q.2 in
        let y = one_lines_of elements p.1 q.1 p.3 q.3 in
        p.4 ∙ rw (x, y) refl ∙ sym q.4

    -- restrictions have one text by elements
    pub one_by_element : (found : List Restriction) (header : List ℕ) → IsOne (IsByElement found header AreLines)
    one_by_element found header a b p q =
        let e = one_elements found p.elements q.elements p.named q.named in
        let r = one_lines_of q.elements p.rest q.rest (subst (λ (l : List ℕ). AreLinesOf AreLines l p.rest) e p.each) q.each in
        p.whole ∙ ap (λ (l : List (List ℕ)). header ∷ l) r ∙ sym q.whole

-- the header alone
abbrev pub IsHeader : List ℕ → List (List ℕ) → Type 0
IsHeader header lines = lines ≡ header ∷ []

pub one_header : (header : List ℕ) → IsOne (IsHeader header)
one_header header a b p q = p ∙ sym q

module _ (AreLines : ℕ → Direction → List (List ℕ) → Type 0) (found : List Restriction) (header : List ℕ)
    (elements : List ℕ) (named : AreElements found elements) (lines : List (List ℕ)) where
  -- the text is the header and then the lines of the elements
  pub text_lines : Then (IsHeader header) (AreLinesOf AreLines elements) lines → IsByElement found header AreLines lines
  text_lines parts = record {
    elements = elements;
    named = named;
    rest = parts.1;
    each = parts.3;
    whole = parts.4 ∙ ap (λ (l : List (List ℕ)). l ++ parts.1) parts.2;
  }

  pub text_parts : IsByElement found header AreLines lines → Then (IsHeader header) (AreLinesOf AreLines elements) lines
  text_parts is =
      let e = one_elements found is.elements elements is.named named in
      (header ∷ [], is.rest, refl, subst (λ (l : List ℕ). AreLinesOf AreLines l is.rest) e is.each, is.whole)
