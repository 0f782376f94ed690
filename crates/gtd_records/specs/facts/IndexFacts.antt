-- Records found by their element.
use Rattle.std.proofs.Common.{◌≡◌, ◌∙◌, sym, ap, refl, subst, ◌<◌, ◌≤◌, ◌+◌, ℕ, zero, suc, List, [], ◌∷◌, length, map, get_or}
use Rattle.std.proofs.Common.{take, drop, ◌-◌, arith, length-drop, length-take}
use Rattle.std.specs.Prelude.{Any, ◌↔◌, slice_index_or}
use Rattle.std.specs.List.{Contains}
use Rattle.std.specs.List.Sorted.{IsStrictlyIncreasing}
use Rattle.std.proofs.lemmas.List.{get_or-take, get_or-drop}
pub use Rattle.gtd_places.specs.facts.PlaceFacts.{any_default, by_le}
use Rattle.gtd_records.specs.Index.{AllSeen, AreElementPlaces, ArePlaces, IsPlaceOfRow}
use Rattle.gtd_records.specs.Closing.{AreElements, Restriction}
use Rattle.gtd_records.specs.RowPlaces.{place_of}
use Rattle.gtd_places.specs.declared.place.RowPlace.{RowPlace}

-- what is at an index
pub at_index : {X : Type 0} (xs : List X) (k : ℕ) → k < length xs → (x : X) × (slice_index_or xs k x ≡ x)
at_index [] k h = absurd (omega arith)
at_index (x ∷ xs) zero h = (x, refl)
at_index (x ∷ xs) (suc k) h = at_index xs k (omega arith)

-- an image is in the images
pub any_from_map : {X : Type 0} (f : X → ℕ) (xs : List X) (k n : ℕ) → k < length (map f xs) → slice_index_or (map f xs) k n ≡ n
    → Any (λ x. f x ≡ n) xs
any_from_map f [] k n h e = absurd (omega arith)
any_from_map f (x ∷ xs) zero n h e = (0, x, omega arith, refl, e)
any_from_map f (x ∷ xs) (suc k) n h e =
    let r = any_from_map f xs k n (omega arith) e in
    (suc r.0, r.1, (let l = r.2 in omega arith), r.3, r.4)

pub map_from_any : {X : Type 0} (f : X → ℕ) (xs : List X) (k n : ℕ) (x : X) → k < length xs → slice_index_or xs k x ≡ x → f x ≡ n
    → Contains (map f xs) n
map_from_any f [] k n x h e g = absurd (omega arith)
map_from_any f (y ∷ xs) zero n x h e g = (0, omega arith, ap f e ∙ g)
map_from_any f (y ∷ xs) (suc k) n x h e g =
    let r = map_from_any f xs k n x (omega arith) e g in
    (suc r.0, (let l = r.1 in omega arith), r.2)

-- a place has what the record at it has
place_says : (rows : List Restriction) (p : RowPlace) (r : Restriction) → IsPlaceOfRow rows p → r ≡ slice_index_or rows p.row r
    → p ≡ place_of r p.row
place_says rows p r h is =
    let e : r ≡ h.0 = is ∙ any_default rows p.row r h.0 h.1 ∙ h.2 in
    h.3 ∙ ap (λ (x : Restriction). place_of x p.row) (sym e)

-- the record at a place is of its element
place_element : (rows : List Restriction) (p : RowPlace) (r : Restriction) → IsPlaceOfRow rows p → r ≡ slice_index_or rows p.row r
    → r.element ≡ p.element
place_element rows p r h is = sym (ap (λ (q : RowPlace). q.element) (place_says rows p r h is))

-- the places of an element, which come one after another
module _ (rows : List Restriction) (places : List RowPlace) (placed : ArePlaces rows places) (element from until : ℕ)
    (le : from ≤ until) (within : until ≤ length places)
    (below : (k : ℕ) (d : RowPlace) → 0 ≤ k → k < from → (slice_index_or places k d).element < element)
    (rest : (k : ℕ) (d : RowPlace) → from ≤ k → k < length places → element ≤ (slice_index_or places k d).element)
    (own : (k : ℕ) (d : RowPlace) → from ≤ k → k < until → (slice_index_or places k d).element ≡ element)
    (other : (d : RowPlace) → until < length places → (slice_index_or places until d).element ≡ element → ⊥) where
  abbrev part : List RowPlace
  part = take (until - from) (drop from places)

  part_length : length part ≡ until - from
  part_length = simp (length-take, length-drop) (omega arith)

  part_at : (k : ℕ) (d : RowPlace) → from + k < until → slice_index_or part k d ≡ slice_index_or places (from + k) d
  part_at k d h = get_or-take (until - from) (drop from places) k d (omega (arith, le)) ∙ get_or-drop from places k d

  part_sound : (k : ℕ) (d : RowPlace) → k < length part → ((slice_index_or part k d).row < length rows)
      × ((r : Restriction) → r ≡ slice_index_or rows (slice_index_or part k d).row r → r.element ≡ element)
  part_sound k d h =
      let here : from + k < until = (let l = part_length in omega arith) in
      let at = part_at k d here in
      let s = placed.sound (from + k) d (omega (arith, here, within)) in (
        subst (λ (p : RowPlace). p.row < length rows) (sym at) s.1,
        (λ r is. place_element rows (slice_index_or places (from + k) d) r s
            (subst (λ (p : RowPlace). r ≡ slice_index_or rows p.row r) at is)
            ∙ own (from + k) d (omega arith) here),
      )

  part_says : (k : ℕ) (d : RowPlace) → k < length part → (r : Restriction)
      → r ≡ slice_index_or rows (slice_index_or part k d).row r → slice_index_or part k d ≡ place_of r (slice_index_or part k d).row
  part_says k d h r is =
      let here : from + k < until = (let l = part_length in omega arith) in
      let at = part_at k d here in
      let p = slice_index_or places (from + k) d in
      at ∙ place_says rows p r (placed.sound (from + k) d (omega (arith, here, within)))
      (subst (λ (q : RowPlace). r ≡ slice_index_or rows q.row r) at is)
      ∙ ap (λ (q : RowPlace). place_of r q.row) (sym at)

  row_placed : AllSeen rows part element (length part)
  row_placed row r inside stands names =
      let p : RowPlace = place_of r row in
      let h = placed.each row r inside stands in
      let k = h.0 in
      let name = ap (λ (q : RowPlace). q.element) h.2 in
      by_le {P = (j : ℕ) × (j < length part) × (slice_index_or part j p ≡ p)} from k
      (λ ge.
      by_le {P = (j : ℕ) × (j < length part) × (slice_index_or part j p ≡ p)} until k
      (λ past.
      let s = placed.sorted until k p past h.1 in
      let m = rest until p le (omega (arith, h.1, past)) in
      absurd (other p (omega (arith, h.1, past)) (omega (arith, s, m, name, names))))
      (λ before.
      let e : from + (k - from) ≡ k = omega arith in (
        k - from,
        (let l = part_length in omega arith),
        part_at (k - from) p (omega (arith, e, before)) ∙ ap (λ (n : ℕ). get_or places n p) e ∙ h.2,
      )))
      (λ lt. let b = below k p (omega arith) lt in absurd (omega (arith, b, name, names)))

  pub element_places : AreElementPlaces rows element part
  element_places = record {
    sound = part_sound;
    says = part_says;
    all = row_placed;
    few = (let l = part_length in let m = placed.many in omega arith);
  }

-- two records at a place are one
pub one_record : (rows : List Restriction) (n : ℕ) (r s : Restriction) → n < length rows → slice_index_or rows n r ≡ r → s
    ≡ slice_index_or rows n s → r ≡ s
one_record rows n r s h a b = sym a ∙ any_default rows n r s h ∙ sym b

-- the elements of the places are those of the rows
module _ (rows : List Restriction) (places : List RowPlace) (placed : ArePlaces rows places) where
  place_named : (x : ℕ) → Contains (map (λ (p : RowPlace). p.element) places) x → Any (λ (r : Restriction). r.element ≡ x) rows
  place_named x h =
      let a = any_from_map (λ (p : RowPlace). p.element) places h.0 x h.1 h.2 in
      let q = subst (IsPlaceOfRow rows) a.3 (placed.sound a.0 a.1 a.2) in
      (a.1.row, q.0, q.1, q.2, sym (ap (λ (p : RowPlace). p.element) q.3) ∙ a.4)

  named_place : (x : ℕ) → Any (λ (r : Restriction). r.element ≡ x) rows → Contains (map (λ (p : RowPlace). p.element) places) x
  named_place x a =
      let c = placed.each a.0 a.1 a.2 a.3 in
      map_from_any (λ (p : RowPlace). p.element) places c.0 x (place_of a.1 a.0) c.1 c.2 a.4

  pub are_elements : (elements : List ℕ) → IsStrictlyIncreasing elements
      → ((x : ℕ) → Contains elements x ↔ Contains (map (λ (p : RowPlace). p.element) places) x) → AreElements rows elements
  are_elements elements ascending same = record {
    ascending = ascending;
    named = λ x. ((λ h. place_named x ((same x).0 h)), (λ a. (same x).1 (named_place x a)));
  }
