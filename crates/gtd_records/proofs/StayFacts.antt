-- How long an element stays closed, found place by place.
use Rattle.std.proofs.Common.{◌≡◌, ◌∙◌, sym, refl, subst, arith, ◌<◌, ◌+◌, ◌⊎◌, inl, inr, ◌↔◌, ℕ, List, length, Bool, true, false}
use Rattle.std.specs.Prelude.{ℤ, ◌<ℤ◌, not, slice_index_or}
use Rattle.std.proofs.lemmas.Int.{ints}
use Rattle.gtd_core.specs.declared.domain.Op.TheVariants.{Union}
use Rattle.gtd_core.specs.declared.second.Sec.{Sec}
use Rattle.gtd_eval.specs.Stays.{IsJoined, IsStay}
use Rattle.gtd_eval.specs.facts.StayFacts.{joined_stays}
use Rattle.gtd_eval.specs.declared.stay.Stay.{Stay}
use Rattle.gtd_records.specs.facts.IndexFacts.{any_default, by_le, one_record}
use Rattle.gtd_records.specs.Index.{AllSeen, AreElementPlaces, IsRepeated}
use Rattle.gtd_records.proofs.FoundPlaces.{repeated_closes}
use Rattle.gtd_records.specs.Closing.{Closes, Concerns, HoldsAt, IsClosed, Restriction}
use Rattle.gtd_records.specs.RowPlaces.{place_of}
use Rattle.gtd_rows.specs.declared.direction.Direction.{Direction}
use Rattle.gtd_places.specs.declared.place.RowPlace.{RowPlace}

-- one set stays as it is as long as an equal one
same_set : (P Q : ℤ → Type 0) (s last : ℤ) (stay : Stay) → ((t : ℤ) → P t ↔ Q t) → IsStay P s last stay → IsStay Q s last stay
same_set P Q s last stay e is = record {
  holds = ((λ h. (e s).0 (is.holds.0 h)), (λ q. is.holds.1 ((e s).1 q)));
  later = is.later;
  within = is.within;
  same = λ t after before.
      let same = is.same t after before in
      ((λ q. (e t).0 (same.0 ((e s).1 q))), (λ q. (e s).0 (same.1 ((e t).1 q))));
}

module _ (rows : List Restriction) (part : List RowPlace) (element : ℕ) (direction : Direction) (vehicle : ℕ) where
  -- a restriction at the first places closes the element at the second
  pub record ClosesSoFar (stop : ℕ) (t : ℤ) : Type 0 where
    pub before : ℕ
    pub place : RowPlace
    pub row : Restriction
    pub early : before < stop
    pub at : slice_index_or part before place ≡ place
    pub within : place.row < length rows
    pub stands : slice_index_or rows place.row row ≡ row
    pub closes : Closes element direction vehicle t row

  -- none does at no place
  pub none_yet : (s last : ℤ) (until : Sec) → s <ℤ last → until.0 ≡ last
      → IsStay (ClosesSoFar 0) s last (record { holds = false; until = until })
  none_yet s last until lt is = record {
    holds = ((λ h. absurd (cc)), (λ c. absurd (let e = c.early in omega arith)));
    later = omega (arith, ints, lt, is);
    within = omega (arith, ints, is);
    same = λ t after before.
        ((λ c. absurd (let e = c.early in omega arith)), (λ c. absurd (let e = c.early in omega arith)));
  }

  module _ (i : ℕ) (d : RowPlace) (here : i < length part) (r : Restriction)
      (within : (slice_index_or part i d).row < length rows) (stands : r ≡ slice_index_or rows (slice_index_or part i d).row r)
      (s last : ℤ) where
    more : (t : ℤ) → ClosesSoFar i t → ClosesSoFar (i + 1) t
    more t c = record {
      before = c.before;
      place = c.place;
      row = c.row;
      early = (let e = c.early in omega arith);
      at = c.at;
      within = c.within;
      stands = c.stands;
      closes = c.closes;
    }

    -- it closes the element at a place before, or here
    last_one : {P : Type 0} (t : ℤ) → ClosesSoFar (i + 1) t → (ClosesSoFar i t → P) → (Closes element direction vehicle t r → P)
        → P
    last_one {P} t c earlier own =
        by_le {P = P} i c.before
        (λ ge.
        let e : c.before ≡ i = (let lt = c.early in omega arith) in
        let same : slice_index_or part i d ≡ c.place = any_default part i d c.place here
        ∙ subst (λ (k : ℕ). slice_index_or part k c.place ≡ c.place) e c.at in
        own (subst (Closes element direction vehicle t)
        (one_record rows (slice_index_or part i d).row c.row r within
        (subst (λ (q : RowPlace). slice_index_or rows q.row c.row ≡ c.row) (sym same) c.stands) stands) c.closes))
        (λ less. earlier (record {
          before = c.before;
          place = c.place;
          row = c.row;
          early = less;
          at = c.at;
          within = c.within;
          stands = c.stands;
          closes = c.closes;
        }))

    -- a restriction at an earlier place that is repeated closes the element
    earlier_one : AreElementPlaces rows element part → (t : ℤ) → IsRepeated rows part direction vehicle i r.domain
        → HoldsAt r.domain t → ClosesSoFar i t
    earlier_one placed t again holds =
        let early = again.early in
        let p = placed.sound again.before again.place (omega arith) in
        record {
          before = again.before;
          place = again.place;
          row = again.row;
          early = again.early;
          at = again.at;
          within = subst (λ (q : RowPlace). q.row < length rows) again.at p.0;
          stands = again.stands;
          closes = repeated_closes rows part element direction vehicle i r.domain t placed (omega arith) again holds;
        }

    -- a restriction that concerns nothing asked for, or that is repeated
    pub same_seconds : AreElementPlaces rows element part
        → (Concerns direction vehicle r → IsRepeated rows part direction vehicle i r.domain) → (t : ℤ)
        → ClosesSoFar i t ↔ ClosesSoFar (i + 1) t
    same_seconds placed again t = (
      more t,
      (λ c. last_one {P = ClosesSoFar i t} t c (λ old. old)
          (λ h. earlier_one placed t (again h.concerns) h.holds)),
    )

    pub skipped : (stay : Stay) → AreElementPlaces rows element part
        → (Concerns direction vehicle r → IsRepeated rows part direction vehicle i r.domain) → IsStay (ClosesSoFar i) s last stay
        → IsStay (ClosesSoFar (i + 1)) s last stay
    skipped stay placed again is =
        same_set (ClosesSoFar i) (ClosesSoFar (i + 1)) s last stay (same_seconds placed again) is

    here_too : (t : ℤ) → Closes element direction vehicle t r → ClosesSoFar (i + 1) t
    here_too t closes = record {
      before = i;
      place = slice_index_or part i d;
      row = r;
      early = omega arith;
      at = any_default part i (slice_index_or part i d) d here;
      within = within;
      stands = sym stands;
      closes = closes;
    }

    -- one that does
    pub more_seconds : r.element ≡ element → Concerns direction vehicle r → (t : ℤ)
        → (ClosesSoFar i t ⊎ HoldsAt r.domain t) ↔ ClosesSoFar (i + 1) t
    more_seconds names concerns t = (
      (λ h. elim h [
        | inl c ↦ more t c
        | inr q ↦ here_too t (record { names = names; concerns = concerns; holds = q })
      ]),
      (λ c. last_one {P = ClosesSoFar i t ⊎ HoldsAt r.domain t} t c (λ old. inl old) (λ h. inr h.holds)),
    )

    pub taken : (old own stay : Stay) → r.element ≡ element → Concerns direction vehicle r → IsStay (ClosesSoFar i) s last old
        → IsStay (HoldsAt r.domain) s last own → IsJoined Union old own stay → IsStay (ClosesSoFar (i + 1)) s last stay
    taken old own stay names concerns is also joined =
        same_set (λ t. ClosesSoFar i t ⊎ HoldsAt r.domain t) (ClosesSoFar (i + 1)) s last stay (more_seconds names concerns)
        (joined_stays Union (ClosesSoFar i) (HoldsAt r.domain) s last old own stay is also joined)

  -- where the first places have all restrictions of the element, these close it
  pub all_seconds : (stop : ℕ) → AllSeen rows part element stop → (t : ℤ)
      → ClosesSoFar stop t ↔ IsClosed rows element direction vehicle t
  all_seconds stop placed t = (
    (λ c. (c.place.row, c.row, c.within, c.stands, c.closes)),
    (λ a.
        let p = placed a.0 a.1 a.2 a.3 a.4.names in
        record {
          before = p.0;
          place = place_of a.1 a.0;
          row = a.1;
          early = p.1;
          at = p.2;
          within = a.2;
          stands = a.3;
          closes = a.4;
        }),
  )

  pub all_stay : (stop : ℕ) (s last : ℤ) (stay : Stay) → IsStay (ClosesSoFar stop) s last stay
      → AllSeen rows part element stop
      → IsStay (IsClosed rows element direction vehicle) s last stay
  all_stay stop s last stay is placed =
      same_set (ClosesSoFar stop) (IsClosed rows element direction vehicle) s last stay (all_seconds stop placed) is

-- two that differ differ from outside too
pub differ_outside : (a b : Bool) → (a ≡ b → ⊥) → not a ≡ not b → ⊥
differ_outside true true differ same = differ refl
differ_outside false false differ same = differ refl
differ_outside true false differ same = cc
differ_outside false true differ same = cc
