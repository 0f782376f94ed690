-- The numbers of the rows that close an element, found place by place.
use Rattle.std.proofs.Common.{◌≡◌, ◌∙◌, sym, subst, arith, ◌<◌, ◌+◌, inl, inr, ℕ, List, [], ◌∷◌, ◌++◌, length}
use Rattle.std.specs.Prelude.{ℤ, slice_index_or}
use Rattle.std.specs.List.{Contains}
use Rattle.std.proofs.lemmas.List.Elements.{Contains-append_left, Contains-push, Contains-push_cases}
use Rattle.gtd_records.specs.facts.IndexFacts.{any_default, by_le, one_record}
use Rattle.gtd_records.specs.Closing.{Closes, Restriction}
use Rattle.gtd_records.specs.ClosingRows.{AreClosingRows, IsClosingRow}
use Rattle.gtd_rows.specs.Columns.{IsSortedSet}
use Rattle.gtd_records.specs.RowPlaces.{place_of}
use Rattle.gtd_rows.specs.declared.direction.Direction.{Direction}
use Rattle.gtd_records.specs.Index.{AllSeen}
use Rattle.gtd_places.specs.declared.place.RowPlace.{RowPlace}

module _ (rows : List Restriction) (part : List RowPlace) (element : ℕ) (direction : Direction) (vehicle : ℕ) (second : ℤ) where
  -- the numbers of the rows at the places so far
  pub record AreSoFar (i : ℕ) (numbers : List ℕ) : Type 0 where
    pub sound : (n : ℕ) → Contains numbers n → IsClosingRow rows element direction vehicle second n
    pub each : (j : ℕ) (p : RowPlace) (r : Restriction) → j < i → slice_index_or part j p ≡ p → slice_index_or rows p.row r ≡ r
        → Closes element direction vehicle second r → Contains numbers (p.row + 1)

  pub none_yet : AreSoFar 0 []
  none_yet = record { sound = λ n c. absurd (let l = c.1 in omega arith); each = λ j p r lt. absurd (omega arith) }

  module _ (i : ℕ) (numbers : List ℕ) (d : RowPlace) (here : i < length part) (s : Restriction)
      (within : (slice_index_or part i d).row < length rows) (stands : s ≡ slice_index_or rows (slice_index_or part i d).row s)
      (old : AreSoFar i numbers) where
    -- what stands at a place up to this one
    at_last : {P : Type 0} (j : ℕ) (p : RowPlace) (r : Restriction) → j < i + 1 → slice_index_or part j p ≡ p
        → slice_index_or rows p.row r ≡ r
        → (j < i → P) → (slice_index_or part i d ≡ p → r ≡ s → P) → P
    at_last {P} j p r lt at is earlier last =
        by_le {P = P} i j
        (λ ge.
        let e : j ≡ i = omega arith in
        let same : slice_index_or part i d ≡ p = any_default part i d p here
        ∙ subst (λ (k : ℕ). slice_index_or part k p ≡ p) e at in
        last same (one_record rows (slice_index_or part i d).row r s within
        (subst (λ (q : RowPlace). slice_index_or rows q.row r ≡ r) (sym same) is) stands))
        (λ less. earlier less)

    -- this row does not close it
    pub skipped : (Closes element direction vehicle second s → ⊥) → AreSoFar (i + 1) numbers
    skipped never = record {
      sound = old.sound;
      each = λ j p r lt at is closes.
          at_last {P = Contains numbers (p.row + 1)} j p r lt at is
          (λ less. old.each j p r less at is closes)
          (λ same own. absurd (never (subst (Closes element direction vehicle second) own closes)));
    }

    -- this row closes it
    pub taken : Closes element direction vehicle second s → AreSoFar (i + 1)
        (numbers ++ (((slice_index_or part i d).row + 1) ∷ []))
    taken closes = record {
      sound = λ n c. elim (Contains-push_cases numbers ((slice_index_or part i d).row + 1) n c) [
        | inl h ↦ old.sound n h
        | inr e ↦ record {
          before = (slice_index_or part i d).row;
          is = sym e;
          within = within;
          row = s;
          stands = sym stands;
          closes = closes;
        }
      ];
      each = λ j p r lt at is c.
          at_last {P = Contains (numbers ++ (((slice_index_or part i d).row + 1) ∷ [])) (p.row + 1)} j p r lt at is
          (λ less. Contains-append_left numbers (((slice_index_or part i d).row + 1) ∷ []) (p.row + 1)
          (old.each j p r less at is c))
          (λ same own. subst (λ (q : RowPlace). Contains (numbers ++ (((slice_index_or part i d).row + 1) ∷ [])) (q.row + 1)) same
          (Contains-push numbers ((slice_index_or part i d).row + 1)));
    }

  -- all of them
  pub all_rows : (i : ℕ) (numbers ordered : List ℕ) → AreSoFar i numbers → IsSortedSet numbers ordered
      → AllSeen rows part element i
      → AreClosingRows rows element direction vehicle second ordered
  all_rows i numbers ordered far is placed = record {
    ascending = is.order;
    each = λ n. (
      (λ c. far.sound n ((is.same n).0 c)),
      (λ r.
          let p = placed r.before r.row r.within r.stands r.closes.names in
          (is.same n).1 (subst (Contains numbers) (sym r.is)
          (far.each p.0 (place_of r.row r.before) r.row p.1 p.2 r.stands r.closes))),
    );
  }
