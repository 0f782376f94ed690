-- What a search among the places of an element's records has seen.
use Rattle.std.proofs.Common.{◌≡◌, ◌∙◌, sym, ap, subst, ◌<◌, ◌≤◌, ◌+◌, ◌↔◌, ℕ, List, length, true, false, Bool, arith}
use Rattle.std.specs.Prelude.{Any, IsTrue, Option, ℤ, slice_index_or}
use Rattle.gtd_core.specs.Trees.{Tree}
use Rattle.gtd_records.specs.Closing.{Closes, HoldsAt, Restriction}
use Rattle.gtd_records.specs.Index.{AllSeen, AreElementPlaces, IsRepeated}
pub use Rattle.gtd_places.specs.facts.PlaceFacts.{nowhere}
use Rattle.gtd_records.specs.RowPlaces.{place_of}
use Rattle.gtd_rows.specs.declared.direction.Direction.{Direction}
use Rattle.gtd_places.specs.declared.place.RowPlace.{RowPlace}
use Rattle.gtd_records.specs.facts.IndexFacts.{any_default, by_le, one_record}

-- the places of the rows that are kept, which are those that are told of
pub places_kept : (kept told : List Restriction) (element : ℕ) (part : List RowPlace) → kept ≡ told
    → AreElementPlaces told element part → AreElementPlaces kept element part
places_kept kept told element part same are =
    subst (λ (rows : List Restriction). AreElementPlaces rows element part) (sym same) are

-- what is told of the rows holds of those that are kept
pub repeats_kept : (kept told : List Restriction) (part : List RowPlace) (direction : Direction) (vehicle stop : ℕ)
    (domain : Option Tree) → kept ≡ told → IsRepeated told part direction vehicle stop domain
    → IsRepeated kept part direction vehicle stop domain
repeats_kept kept told part direction vehicle stop domain same is =
    subst (λ (rows : List Restriction). IsRepeated rows part direction vehicle stop domain) (sym same) is

-- where the restriction at an earlier place is repeated, it closes the element at the seconds of the domain
pub repeated_closes : (rows : List Restriction) (part : List RowPlace) (element : ℕ) (direction : Direction) (vehicle : ℕ) (i : ℕ)
    (domain : Option Tree) (t : ℤ) → AreElementPlaces rows element part → i ≤ length part
    → (again : IsRepeated rows part direction vehicle i domain) → HoldsAt domain t → Closes element direction vehicle t again.row
repeated_closes rows part element direction vehicle i domain t placed within again holds =
    let early = again.early in
    let p = placed.sound again.before again.place (omega arith) in
    record {
      names = p.1 again.row (sym (subst (λ (q : RowPlace). slice_index_or rows q.row again.row ≡ again.row) (sym again.at)
          again.stands));
      concerns = again.concerns;
      holds = subst (λ (d : Option Tree). HoldsAt d t) (sym again.same) holds;
    }

module _ (rows : List Restriction) (part : List RowPlace) (P : Restriction → Type 0) where
  -- no restriction at the first places has it
  abbrev pub NoneSoFar : ℕ → Type 0
  NoneSoFar stop =
      (k : ℕ) (d : RowPlace) (r : Restriction) → k < stop → slice_index_or rows (slice_index_or part k d).row r ≡ r → P r → ⊥

  pub none_more : (i : ℕ) (p : RowPlace) (s : Restriction) → i < length part → (slice_index_or part i p).row < length rows
      → s ≡ slice_index_or rows (slice_index_or part i p).row s → (P s → ⊥) → NoneSoFar i → NoneSoFar (i + 1)
  none_more i p s here there at none before = λ k d r lt is has.
      by_le {P = ⊥} i k
      (λ ge.
      let e : k ≡ i = omega arith in
      let same_place = ap (λ (n : ℕ). slice_index_or part n d) e ∙ any_default part i d p here in
      let same : r ≡ s = one_record rows (slice_index_or part i p).row r s there
      (subst (λ (q : RowPlace). slice_index_or rows q.row r ≡ r) same_place is) at in
      none (subst P same has))
      (λ less. before k d r less is has)

  -- what no place seen has, no row of the element has
  pub none_of_seen : (element : ℕ) (stop : ℕ) → ((r : Restriction) → P r → r.element ≡ element) → AllSeen rows part element stop
      → NoneSoFar stop → Any P rows → ⊥
  none_of_seen element stop names seen none a =
      let p = seen a.0 a.1 a.2 a.3 (names a.1 a.4) in
      none p.0 (place_of a.1 a.0) a.1 p.1
      (subst (λ (q : RowPlace). slice_index_or rows q.row a.1 ≡ a.1) (sym p.2) a.3) a.4

  -- the answer, where one was found
  pub told_found : (told : List Restriction) → rows ≡ told → (row : ℕ) (r : Restriction) (answer : Bool) → row < length rows
      → r ≡ slice_index_or rows row r → P r → answer ≡ true → IsTrue answer ↔ Any P told
  told_found told same row r answer within at has told_so =
      ((λ h. subst (Any P) same (row, r, within, sym at, has)), (λ a. told_so))

  -- the answer, where all were seen and none was found
  pub told_none : (told : List Restriction) → rows ≡ told → (element : ℕ) → AreElementPlaces rows element part
      → ((r : Restriction) → P r → r.element ≡ element) → (answer : Bool) → NoneSoFar (length part) → answer ≡ false
      → IsTrue answer ↔ Any P told
  told_none told same element are names answer none differ = (
    (λ h. absurd (cc)),
    (λ a. absurd (none_of_seen element (length part) names are.all none (subst (Any P) (sym same) a))),
  )
