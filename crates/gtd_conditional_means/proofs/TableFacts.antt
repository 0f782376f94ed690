-- What the rows that were taken say.
use Rattle.std.proofs.Common.{◌≡◌, ◌∙◌, sym, ap, refl, subst, arith, ◌≤◌, ◌+◌, inl, inr, ℕ, Bool, true}
use Rattle.std.proofs.Common.{List, [], ◌∷◌, ◌++◌, length, append_assoc}
use Rattle.std.specs.Prelude.{Result, Ok, Err, IfOk}
use Rattle.std.proofs.lemmas.List.{append-nil}
use Rattle.gtd_rows.specs.Columns.{Fields}
use Rattle.gtd_rows.specs.Taking.{AreAllTaken, AreTableTaken, HasHeader}
use Rattle.gtd_rows.specs.declared.rows.RowsEnd.TheVariants.{All, NoHeader, Stopped, TooMany}
use Rattle.gtd_conditional_means.specs.Places.{AreOf}
use Rattle.gtd_conditional_means.specs.Table.{AreEach, AreTable, faults_of, header, most_table_rows}
use Rattle.gtd_conditional_means.specs.TakenRows.{Begins, Takes}
use Rattle.gtd_conditional_means.specs.declared.fault.MeansFault.{MeansFault}
use Rattle.gtd_conditional_means.specs.declared.fault.MeansFault.TheVariants as fault
use Rattle.gtd_conditional_means.specs.declared.meaning.MeansRow.{MeansRow}
use Rattle.gtd_conditional_means.specs.declared.places.Places.{Places}
use Rattle.gtd_conditional_means.specs.declared.table.Found.{Found}

-- what the rows add that were taken one after another
each_taken : (k : ℕ) (rows : List Fields) (old new : Found) → AreOf old.rows.items old.places → AreAllTaken Takes k rows old new
    → (faults : List MeansFault) × AreEach k old.rows.items rows new.rows.items faults
    × (new.faults.items ≡ old.faults.items ++ faults) × AreOf new.rows.items new.places
each_taken k [] old new placed same = (
  [],
  (ap (λ (r : Found). r.rows.items) same, refl),
  ap (λ (r : Found). r.faults.items) same ∙ sym (append-nil old.faults.items),
  subst (λ (r : Found). AreOf r.rows.items r.places) (sym same) placed,
)
each_taken k (row ∷ rows) old new placed taken =
    let one = taken.1.1 placed in
    let a = one.answer in
    let more = each_taken (k + 1) rows taken.0 new one.placed taken.2 in (
      faults_of a ++ more.0,
      (
        a,
        more.0,
        one.says,
        subst (λ (l : List MeansRow). AreEach (k + 1) l rows new.rows.items more.0) one.rows more.1,
        refl,
      ),
      more.2 ∙ ap (λ (l : List MeansFault). l ++ more.0) one.faults
          ∙ append_assoc old.faults.items (faults_of a) more.0,
      more.3,
    )

-- the same, where nothing was found before
all_taken : (rows : List Fields) (old new : Found) → old.rows.items ≡ [] → old.faults.items ≡ []
    → AreOf old.rows.items old.places → AreAllTaken Takes 1 rows old new
    → AreEach 1 [] rows new.rows.items new.faults.items × AreOf new.rows.items new.places
all_taken rows old new found faults placed taken =
    let all = each_taken 1 rows old new placed taken in
    let f : new.faults.items ≡ all.0 = all.2 ∙ ap (λ (l : List MeansFault). l ++ all.0) faults in (
      subst (λ (b : List MeansRow). AreEach 1 b rows new.rows.items new.faults.items) found
          (subst (λ (l : List MeansFault). AreEach 1 old.rows.items rows new.rows.items l) (sym f) all.1),
      all.3,
    )

-- no more rows are taken than a table may have
few_taken : (k : ℕ) (rows : List Fields) (old new : Found) → k ≤ most_table_rows + 1 → AreAllTaken Takes k rows old new
    → k + length rows ≤ most_table_rows + 1
few_taken k [] old new few taken = omega (arith, few)
few_taken k (row ∷ rows) old new few taken =
    let here = taken.1.0 in
    let more = few_taken (k + 1) rows taken.0 new (omega (arith, here)) taken.2 in
    omega (arith, more)

-- what begins with the places of its rows still has them after the header
begun_placed : (old new : Found) (first : Fields) (is : Bool) → AreOf old.rows.items old.places → Begins old first new is
    → AreOf new.rows.items new.places
begun_placed old new first is placed e =
    subst (λ (rows : List MeansRow). AreOf rows new.places) (sym e.1)
    (subst (λ (places : Places). AreOf old.rows.items places) (sym e.3) placed)

module _ (text : List Fields) (old new : Found) (found : old.rows.items ≡ []) (faults : old.faults.items ≡ [])
    (none_placed : AreOf [] old.places) where
  placed : AreOf old.rows.items old.places
  placed = subst (λ (rows : List MeansRow). AreOf rows old.places) (sym found) none_placed

  -- all rows were taken
  pub table_read : HasHeader Begins Takes text old new All
      → AreTable text new.rows.items new.faults.items × AreOf new.rows.items new.places
  table_read h =
      let e = h.begun in
      let few = few_taken 1 h.rows h.at new (omega arith) h.taken.1 in
      let all = all_taken h.rows h.at new (e.1 ∙ found) (e.2 ∙ faults) (begun_placed old h.at h.first true placed e) h.taken.1 in (
        inl (
          h.rows,
          h.split ∙ ap (λ (f : Fields). f ∷ h.rows) (e.0.0 refl),
          inl (omega (arith, few), all.0),
        ),
        all.1,
      )

  -- or there is one too many
  pub table_too_long : HasHeader Begins Takes text old new Stopped
      → AreTable text new.rows.items new.faults.items × AreOf new.rows.items new.places
  table_too_long h =
      let e = h.begun in
      let m = h.taken in
      let few = few_taken 1 m.before h.at m.at (omega arith) m.taken in
      let over = m.stops.0 in
      let all = all_taken m.before h.at m.at (e.1 ∙ found) (e.2 ∙ faults) (begun_placed old h.at h.first true placed e) m.taken in (
        inl (
          h.rows,
          h.split ∙ ap (λ (f : Fields). f ∷ h.rows) (e.0.0 refl),
          inr (record {
            before = m.before;
            row = m.row;
            after = m.after;
            split = m.split;
            many = omega (arith, few, over);
            listed = m.at.faults.items;
            each = subst (λ (l : List MeansRow). AreEach 1 [] m.before l m.at.faults.items) (sym m.stops.1) all.0;
            whole = m.stops.2;
          }),
        ),
        subst (λ (rows : List MeansRow). AreOf rows new.places) (sym m.stops.1)
            (subst (λ (places : Places). AreOf m.at.rows.items places) (sym m.stops.3) all.1),
      )

  -- so never so many are taken as a file may have
  pub never_more : HasHeader Begins Takes text old new TooMany → ⊥
  never_more h =
      let m = h.taken in
      let few = few_taken 1 m.before h.at new (omega arith) m.taken in
      let many = m.many in
      omega (arith, few, many)

-- ---- a fault that comes alone

no_first : (text : List Fields) (old new : Found) → AreTableTaken Begins Takes text old new NoHeader
    → (rows : List Fields) → text ≡ header ∷ rows → ⊥
no_first text old new (inl p) rows e = let nil = p.0 in cc
no_first text old new (inr h) rows e = let no = h.3.0.1 (let same : h.0 ≡ header = (let s = h.2 in cc) in same) in cc

pub no_header : {E : Type 0} (r : Result Found E) (text : List Fields) (old new : Found)
    → AreTableTaken Begins Takes text old new NoHeader
    → IfOk r (λ found. found.rows.items ≡ []) → IfOk r (λ found. found.faults.items ≡ fault.Header ∷ [])
    → IfOk r (λ found. AreTable text found.rows.items found.faults.items)
no_header (Ok found) text old new taken rows faults = inr (no_first text old new taken, rows, faults)
no_header (Err why) text old new taken rows faults = tt
