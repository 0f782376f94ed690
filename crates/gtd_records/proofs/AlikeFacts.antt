-- Where each row that closes an element has one of another element with the same domain, the other is closed, too.
use Rattle.std.proofs.Common.{◌≡◌, ◌∙◌, sym, ap, subst, ◌<◌, ◌+◌, ℕ, List, length, arith}
use Rattle.std.specs.Prelude.{ℤ, slice_index_or}
use Rattle.gtd_records.specs.Alike.{AreCovered}
use Rattle.gtd_records.specs.Closing.{Concerns, IsClosed, Restriction}
use Rattle.gtd_records.specs.Index.{AreElementPlaces, IsRepeated}
use Rattle.gtd_rows.specs.declared.direction.Direction.{Direction}
use Rattle.gtd_records.specs.facts.IndexFacts.{any_default, by_le, one_record}
use Rattle.gtd_records.specs.RowPlaces.{place_of}
use Rattle.gtd_places.specs.declared.place.RowPlace.{RowPlace}
use Rattle.gtd_records.proofs.FoundPlaces.{repeated_closes}

module _ (rows : List Restriction) (part others : List RowPlace) (one other : Direction) (vehicle : ℕ) where
  pub covered_more : (i : ℕ) (p : RowPlace) (s : Restriction) → i < length part → (slice_index_or part i p).row < length rows
      → s ≡ slice_index_or rows (slice_index_or part i p).row s
      → (Concerns one vehicle s → IsRepeated rows others other vehicle (length others) s.domain)
      → AreCovered rows part others one other vehicle i → AreCovered rows part others one other vehicle (i + 1)
  covered_more i p s here there at next before = λ k d r lt is concerns.
      by_le {P = IsRepeated rows others other vehicle (length others) r.domain} i k
      (λ ge.
      let e : k ≡ i = omega arith in
      let same_place = ap (λ (n : ℕ). slice_index_or part n d) e ∙ any_default part i d p here in
      let same : r ≡ s = one_record rows (slice_index_or part i p).row r s there
      (subst (λ (q : RowPlace). slice_index_or rows q.row r ≡ r) same_place is) at in
      subst (λ (x : Restriction). IsRepeated rows others other vehicle (length others) x.domain) (sym same)
      (next (subst (Concerns one vehicle) same concerns)))
      (λ less. before k d r less is concerns)

  pub closed_too : (element another : ℕ) → AreElementPlaces rows element part → AreElementPlaces rows another others
      → AreCovered rows part others one other vehicle (length part) → (t : ℤ)
      → IsClosed rows element one vehicle t → IsClosed rows another other vehicle t
  closed_too element another placed there covered t is =
      let c = is.4 in
      let p = placed.all is.0 is.1 is.2 is.3 c.names in
      let again = covered p.0 (place_of is.1 is.0) is.1 p.1
      (subst (λ (q : RowPlace). slice_index_or rows q.row is.1 ≡ is.1) (sym p.2) is.3) c.concerns in
      let early = again.early in
      let row = there.sound again.before again.place (omega arith) in (
        again.place.row,
        again.row,
        subst (λ (q : RowPlace). q.row < length rows) again.at row.0,
        again.stands,
        repeated_closes rows others another other vehicle (length others) is.1.domain t there (omega arith) again c.holds,
      )
