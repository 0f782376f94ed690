-- Places that are found among some of the places.
use Rattle.std.proofs.Common.{◌≡◌, ◌∙◌, ◌++◌, ap, subst, ◌<◌, ◌≤◌, ◌+◌, ◌-◌, ℕ, List, length, take, drop, arith}
use Rattle.std.proofs.Common.{length-drop, length-take}
use Rattle.std.specs.Prelude.{slice_index_or}
use Rattle.std.specs.List.{AllWithin}
use Rattle.std.specs.List.Sorted.{IsNonDecreasingBy}
use Rattle.std.proofs.lemmas.List.{append-nil, drop_all, get_or-take, get_or-drop, take_all}
use Rattle.gtd_places.specs.declared.place.RowPlace.{RowPlace}
use Rattle.gtd_places.specs.facts.PlaceFacts.{any_default, by_le}

module _ (places : List RowPlace) (sorted : IsNonDecreasingBy (λ (p : RowPlace). p.element) places) (element : ℕ) where
  -- those before a place whose element is less
  pub all_below : (last : ℕ) (p : RowPlace) → last < length places → (slice_index_or places last p).element < element
      → AllWithin (λ (q : RowPlace). q.element < element) places 0 (last + 1)
  all_below last p within less = λ k d ge lt.
      let order = sorted k last d (omega arith) within in
      let here = subst (λ (q : RowPlace). q.element < element) (any_default places last p d within) less in
      omega (arith, order, here)

  -- those from a place on whose element is not less
  pub all_above : (first : ℕ) (p : RowPlace) → first < length places → element ≤ (slice_index_or places first p).element
      → AllWithin (λ (q : RowPlace). element ≤ q.element) places first (length places)
  all_above first p within more = λ k d ge lt.
      let order = sorted first k d ge lt in
      let here = subst (λ (q : RowPlace). element ≤ q.element) (any_default places first p d within) more in
      omega (arith, order, here)

module _ (places : List RowPlace) (from until : ℕ) (le : from ≤ until) (within : until ≤ length places) where
  abbrev pub part : List RowPlace
  part = take (until - from) (drop from places)

  part_length : length part ≡ until - from
  part_length = simp (length-take, length-drop) (omega (arith, le, within))

  part_at : (k : ℕ) (d : RowPlace) → from + k < until → slice_index_or part k d ≡ slice_index_or places (from + k) d
  part_at k d h = get_or-take (until - from) (drop from places) k d (omega (arith, le)) ∙ get_or-drop from places k d

  pub part_sorted : IsNonDecreasingBy (λ (p : RowPlace). p.element) places → IsNonDecreasingBy (λ (p : RowPlace). p.element) part
  part_sorted sorted = λ i j d low high.
      let last : from + j < until = (let l = part_length in omega arith) in
      rw (part_at i d (omega arith), part_at j d last) (sorted (from + i) (from + j) d (omega arith) (omega arith))

  -- a property of a place of the part is one of the same place among all
  of_part : (P : RowPlace → Type 0) (k : ℕ) (d : RowPlace) → from ≤ k → k < until → P (slice_index_or part (k - from) d)
      → P (slice_index_or places k d)
  of_part P k d ge lt has =
      let e : from + (k - from) ≡ k = omega arith in
      subst (λ (n : ℕ). P (slice_index_or places n d)) e (subst P (part_at (k - from) d (omega (arith, e))) has)

  pub within_part : (r : ℕ) → r ≤ length part → from + r ≤ length places
  within_part r short = let l = part_length in omega (arith, l, le, within)

  pub below_both : (element r : ℕ) → r ≤ length part → AllWithin (λ (p : RowPlace). p.element < element) places 0 from
      → AllWithin (λ (p : RowPlace). p.element < element) part 0 r
      → AllWithin (λ (p : RowPlace). p.element < element) places 0 (from + r)
  below_both element r short before own = λ k d ge lt.
      by_le {P = (slice_index_or places k d).element < element} from k
      (λ past.
      let l = part_length in
      of_part (λ (p : RowPlace). p.element < element) k d past (omega (arith, l, le, short))
      (own (k - from) d (omega arith) (omega (arith, past))))
      (λ early. before k d ge early)

  pub above_both : (element r : ℕ) → AllWithin (λ (p : RowPlace). element ≤ p.element) places until (length places)
      → AllWithin (λ (p : RowPlace). element ≤ p.element) part r (length part)
      → AllWithin (λ (p : RowPlace). element ≤ p.element) places (from + r) (length places)
  above_both element r after own = λ k d ge lt.
      by_le {P = element ≤ (slice_index_or places k d).element} until k
      (λ past. after k d past lt)
      (λ early.
      let l = part_length in
      of_part (λ (p : RowPlace). element ≤ p.element) k d (omega (arith, ge)) early
      (own (k - from) d (omega (arith, ge)) (omega (arith, l, ge))))

-- what was written back into a list of the same length
pub written_back : {X : Type 0} (items new : List X) (count : ℕ) → length new ≡ length items → count ≡ length items
    → take count (new ++ drop (length new) items) ≡ new
written_back {X} items new count long is =
    ap (λ (rest : List X). take count (new ++ rest)) (drop_all (length new) items (omega (arith, long)))
    ∙ ap (take count) (append-nil new) ∙ take_all count new (omega (arith, long, is))
