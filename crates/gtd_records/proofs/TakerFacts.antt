-- What reading a record file and listing its faults make of all its rows.
use Rattle.std.proofs.Common.{◌≡◌, ◌∙◌, ◌+◌, inl, inr, ap, refl, subst, arith, ℕ, true, false, List, [], ◌∷◌, ◌++◌, length}
use Rattle.std.specs.Prelude.{Ok, Err}
use Rattle.gtd_records.specs.Closing.{Restriction}
use Rattle.gtd_rows.specs.Columns.{Fields}
use Rattle.gtd_records.specs.ComputedFile.{AreRecords, IsTable}
use Rattle.gtd_records.specs.ComputedRow.{IsRow}
use Rattle.gtd_records.specs.Faults.{AreRowFaults, AreTableFaults, with_fault}
use Rattle.gtd_records.specs.File.{header}
use Rattle.gtd_records.specs.RowTakers.{BeginsFaults, BeginsReading, IsHeader, ListsFault, Reads}
use Rattle.gtd_rows.specs.Taking.{AreAllTaken, AreTableTaken, HasHeader}
use Rattle.gtd_records.specs.facts.RowFaults.{faults_listed}
use Rattle.gtd_rows.specs.facts.RowsRead.{IsListing}
use Rattle.gtd_rows.specs.facts.TakenRows.{taken_from_none}
use Rattle.gtd_records.specs.declared.fault.RecordFault.TheVariants as fault
use Rattle.gtd_records.specs.declared.faults.FaultList.{FaultList}
use Rattle.gtd_records.specs.declared.file.Reading.{Reading}
use Rattle.gtd_rows.specs.declared.rows.RowsEnd.TheVariants.{NoHeader, All, Stopped, TooMany}
use Rattle.gtd_rows.specs.declared.vehicles.Version.{Version}

-- a first record that is no header
no_header : (text : List Fields) (first : Fields) (rows : List Fields) (v : Version) → text ≡ first ∷ rows
    → IsHeader first v false → (w : Version) (others : List Fields) → text ≡ header w ∷ others → ⊥
no_header text first rows v split is w others e = is w (let same : first ≡ header w = cc in same)

-- the header of a text
headed : (text : List Fields) (first : Fields) (rows : List Fields) (v : Version) → text ≡ first ∷ rows → IsHeader first v true
    → text ≡ header v ∷ rows
headed text first rows v split is = split ∙ ap (λ (f : Fields). f ∷ rows) is

-- ---- reading

records_listed : (v : Version) → IsListing (λ (r : Restriction) (rest : List Restriction). r ∷ rest)
    (λ (k : ℕ) (row : Fields) (r : Restriction). IsRow v k row (Ok r)) (AreRecords v)
records_listed v = record {
  joins = λ r rest more. refl;
  none = λ k l. ((λ e. e), (λ e. e));
  more = λ k r rs l. ((λ a. a), (λ a. a));
}

records_taken : (v : Version) (rows : List Fields) (old new : Reading) → old.rows.version ≡ v → old.found.items ≡ []
    → AreAllTaken Reads 1 rows old new → (new.rows.version ≡ v) × AreRecords v 1 rows new.found.items
records_taken v rows old new same none taken =
    taken_from_none (λ (r : Restriction) (rest : List Restriction). r ∷ rest)
    (λ (k : ℕ) (row : Fields) (r : Restriction). IsRow v k row (Ok r)) (AreRecords v) (records_listed v) Reads
    (λ (s : Reading). s.rows.version ≡ v) (λ (s : Reading). s.found.items)
    (λ a b k row keeps t.
    (t.0 ∙ keeps, (t.1.0, subst (λ (w : Version). IsRow w k row (Ok t.1.0)) keeps t.1.1, t.1.2)))
    rows old new same none taken

module _ (text : List Fields) (old new : Reading) (none : old.found.items ≡ []) where
  pub table_unread : AreTableTaken BeginsReading Reads text old new NoHeader → IsTable text (Err fault.Header)
  table_unread (inl p) = inr ((λ v rows e. let nil = p.0 in cc), refl)
  table_unread (inr h) = inr (no_header text h.0 h.1 new.rows.version h.2 h.3.0, refl)

  pub table_read : HasHeader BeginsReading Reads text old new All → IsTable text (Ok new.found.items)
  table_read h =
      let v = h.at.rows.version in
      inl (
        v,
        h.rows,
        headed text h.first h.rows v h.split h.begun.0,
        (h.taken.0, (records_taken v h.rows h.at new refl (h.begun.1 ∙ none) h.taken.1).1),
      )

  pub table_at_fault : HasHeader BeginsReading Reads text old new Stopped → IsTable text (Err new.fault)
  table_at_fault h =
      let v = h.at.rows.version in
      let s = h.taken in
      let few = s.few in
      let r = records_taken v s.before h.at s.at refl (h.begun.1 ∙ none) s.taken in
      inl (
        v,
        h.rows,
        headed text h.first h.rows v h.split h.begun.0,
        record {
          before = s.before;
          row = s.row;
          after = s.after;
          split = s.split;
          found = s.at.found.items;
          sound = (omega (arith, few), r.1);
          fault = inr (few, subst (λ (w : Version). IsRow w (length s.before + 1) s.row (Err new.fault)) r.0 s.stops);
        },
      )

  pub table_too_long : HasHeader BeginsReading Reads text old new TooMany → IsTable text (Err fault.TooManyRows)
  table_too_long h =
      let v = h.at.rows.version in
      let m = h.taken in
      let many = m.many in
      inl (
        v,
        h.rows,
        headed text h.first h.rows v h.split h.begun.0,
        record {
          before = m.before;
          row = m.row;
          after = m.after;
          split = m.split;
          found = new.found.items;
          sound = (omega (arith, many), (records_taken v m.before h.at new refl (h.begun.1 ∙ none) m.taken).1);
          fault = inl (many, refl);
        },
      )

-- ---- faults

faults_taken : (v : Version) (rows : List Fields) (old new : FaultList) → old.rows.version ≡ v → old.faults.items ≡ []
    → AreAllTaken ListsFault 1 rows old new → (new.rows.version ≡ v) × AreRowFaults v 1 rows new.faults.items
faults_taken v rows old new same none taken =
    taken_from_none with_fault (IsRow v) (AreRowFaults v) (faults_listed v) ListsFault (λ (s : FaultList). s.rows.version ≡ v)
    (λ (s : FaultList). s.faults.items)
    (λ a b k row keeps t. (t.0 ∙ keeps, (t.1.0, subst (λ (w : Version). IsRow w k row t.1.0) keeps t.1.1, t.1.2)))
    rows old new same none taken

module _ (text : List Fields) (old new : FaultList) (none : old.faults.items ≡ []) where
  pub faults_unread : AreTableTaken BeginsFaults ListsFault text old new NoHeader → AreTableFaults text (fault.Header ∷ [])
  faults_unread (inl p) = inr ((λ v rows e. let nil = p.0 in cc), refl)
  faults_unread (inr h) = inr (no_header text h.0 h.1 new.rows.version h.2 h.3.0, refl)

  pub faults_read : HasHeader BeginsFaults ListsFault text old new All → AreTableFaults text new.faults.items
  faults_read h =
      let v = h.at.rows.version in
      inl (
        v,
        h.rows,
        headed text h.first h.rows v h.split h.begun.0,
        inl (h.taken.0, (faults_taken v h.rows h.at new refl (h.begun.1 ∙ none) h.taken.1).1),
      )

  pub faults_too_many : HasHeader BeginsFaults ListsFault text old new TooMany
      → AreTableFaults text (new.faults.items ++ (fault.TooManyRows ∷ []))
  faults_too_many h =
      let v = h.at.rows.version in
      let m = h.taken in
      inl (
        v,
        h.rows,
        headed text h.first h.rows v h.split h.begun.0,
        inr (record {
          before = m.before;
          row = m.row;
          after = m.after;
          split = m.split;
          many = m.many;
          listed = new.faults.items;
          each = (faults_taken v m.before h.at new refl (h.begun.1 ∙ none) m.taken).1;
          whole = refl;
        }),
      )
