-- What the rows that were taken say.
use Rattle.std.proofs.Common.{◌≡◌, ◌∙◌, sym, ap, refl, subst, arith, ◌<◌, ◌≤◌, ◌+◌, inl, inr, ℕ}
use Rattle.std.proofs.Common.{List, [], ◌∷◌, ◌++◌, length, length-append, append_assoc}
use Rattle.std.specs.Prelude.{Result, Ok, Err, IfOk}
use Rattle.std.proofs.lemmas.List.{append-nil}
use Rattle.csv.specs.Reading.{default_config, records, strip_bom}
use Rattle.gtd_core.specs.Limits.{most_file_bytes}
use Rattle.gtd_rows.specs.Columns.{Fields}
use Rattle.gtd_rows.specs.Taking.{AreAllTaken, AreTableTaken, HasHeader}
use Rattle.gtd_rows.specs.declared.rows.RowsEnd.TheVariants.{All, NoHeader, Stopped, TooMany}
use Rattle.gtd_hours_holidays.specs.Table.{AreEach, AreOfBytes, AreRows, AreTable, faults_of, header, most_table_rows, read_of}
use Rattle.gtd_hours_holidays.specs.TakenRows.{Begins, Takes}
use Rattle.gtd_hours_holidays.specs.declared.fault.HolidaysFault.{HolidaysFault}
use Rattle.gtd_hours_holidays.specs.declared.fault.HolidaysFault.TheVariants as fault
use Rattle.gtd_hours_holidays.specs.declared.row.HolidayRow.{HolidayRow}
use Rattle.gtd_hours_holidays.specs.declared.table.Found.{Found}

-- what the rows add that were taken one after another
each_taken : (k : ℕ) (rows : List Fields) (old new : Found) → AreAllTaken Takes k rows old new
    → (found : List HolidayRow) × (faults : List HolidaysFault) × AreEach k rows found faults
    × (new.rows.items ≡ old.rows.items ++ found) × (new.faults.items ≡ old.faults.items ++ faults)
each_taken k [] old new same = (
  [],
  [],
  (refl, refl),
  ap (λ (r : Found). r.rows.items) same ∙ sym (append-nil old.rows.items),
  ap (λ (r : Found). r.faults.items) same ∙ sym (append-nil old.faults.items),
)
each_taken k (row ∷ rows) old new taken =
    let one = taken.1.1 in
    let a = one.0 in
    let more = each_taken (k + 1) rows taken.0 new taken.2 in (
      read_of a ++ more.0,
      faults_of a ++ more.1,
      (a, more.0, more.1, one.1, more.2, refl, refl),
      more.3 ∙ ap (λ (l : List HolidayRow). l ++ more.0) one.2 ∙ append_assoc old.rows.items (read_of a) more.0,
      more.4 ∙ ap (λ (l : List HolidaysFault). l ++ more.1) one.3
          ∙ append_assoc old.faults.items (faults_of a) more.1,
    )

-- the same, where nothing was found before
all_taken : (rows : List Fields) (old new : Found) → old.rows.items ≡ [] → old.faults.items ≡ []
    → AreAllTaken Takes 1 rows old new → AreEach 1 rows new.rows.items new.faults.items
all_taken rows old new found faults taken =
    let all = each_taken 1 rows old new taken in
    let s : new.rows.items ≡ all.0 = all.3 ∙ ap (λ (l : List HolidayRow). l ++ all.0) found in
    let f : new.faults.items ≡ all.1 = all.4 ∙ ap (λ (l : List HolidaysFault). l ++ all.1) faults in
    subst (λ (l : List HolidayRow). AreEach 1 rows l new.faults.items) (sym s)
    (subst (λ (l : List HolidaysFault). AreEach 1 rows all.0 l) (sym f) all.2)

-- no more rows are taken than a table may have
few_taken : (k : ℕ) (rows : List Fields) (old new : Found) → k ≤ most_table_rows + 1 → AreAllTaken Takes k rows old new
    → k + length rows ≤ most_table_rows + 1
few_taken k [] old new few taken = omega (arith, few)
few_taken k (row ∷ rows) old new few taken =
    let here = taken.1.0 in
    let more = few_taken (k + 1) rows taken.0 new (omega (arith, here)) taken.2 in
    omega (arith, more)

module _ (text : List Fields) (old new : Found) (found : old.rows.items ≡ []) (faults : old.faults.items ≡ []) where
  -- all rows were taken
  pub table_read : HasHeader Begins Takes text old new All → AreTable text new.rows.items new.faults.items
  table_read h =
      let e = h.begun in
      let few = few_taken 1 h.rows h.at new (omega arith) h.taken.1 in
      inl (
        h.rows,
        h.split ∙ ap (λ (f : Fields). f ∷ h.rows) (e.0.0 refl),
        inl (omega (arith, few), all_taken h.rows h.at new (e.1 ∙ found) (e.2 ∙ faults) h.taken.1),
      )

  -- or there is one too many
  pub table_too_long : HasHeader Begins Takes text old new Stopped → AreTable text new.rows.items new.faults.items
  table_too_long h =
      let e = h.begun in
      let m = h.taken in
      let few = few_taken 1 m.before h.at m.at (omega arith) m.taken in
      let over = m.stops.0 in
      inl (
        h.rows,
        h.split ∙ ap (λ (f : Fields). f ∷ h.rows) (e.0.0 refl),
        inr (record {
          before = m.before;
          row = m.row;
          after = m.after;
          split = m.split;
          many = omega (arith, few, over);
          listed = m.at.faults.items;
          each =
              subst (λ (l : List HolidayRow). AreEach 1 m.before l m.at.faults.items) (sym m.stops.1)
              (all_taken m.before h.at m.at (e.1 ∙ found) (e.2 ∙ faults) m.taken);
          whole = m.stops.2;
        }),
      )

  -- so never so many are taken as a file may have
  pub never_more : HasHeader Begins Takes text old new TooMany → ⊥
  never_more h =
      let m = h.taken in
      let few = few_taken 1 m.before h.at new (omega arith) m.taken in
      let many = m.many in
      omega (arith, few, many)

-- ---- a fault that comes alone

no_first : (text : List Fields) (old new : Found) → AreTableTaken Begins Takes text old new NoHeader
    → (rows : List Fields) → text ≡ header ∷ rows → ⊥
no_first text old new (inl p) rows e = let nil = p.0 in cc
no_first text old new (inr h) rows e = let no = h.3.0.1 (let same : h.0 ≡ header = (let s = h.2 in cc) in same) in cc

pub no_header : {E : Type 0} (r : Result Found E) (text : List Fields) (old new : Found)
    → AreTableTaken Begins Takes text old new NoHeader
    → IfOk r (λ found. found.rows.items ≡ []) → IfOk r (λ found. found.faults.items ≡ fault.Header ∷ [])
    → IfOk r (λ found. AreTable text found.rows.items found.faults.items)
no_header (Ok found) text old new taken rows faults = inr (no_first text old new taken, rows, faults)
no_header (Err why) text old new taken rows faults = tt

pub large : {E : Type 0} (r : Result Found E) (bytes : List ℕ) → most_file_bytes < length bytes
    → IfOk r (λ found. found.rows.items ≡ []) → IfOk r (λ found. found.faults.items ≡ fault.TooLarge ∷ [])
    → IfOk r (λ found. AreOfBytes bytes found.rows.items found.faults.items)
large (Ok found) bytes many rows faults = inr (many, rows, faults)
large (Err why) bytes many rows faults = tt

pub not_large : {E : Type 0} (r : Result Found E) (bytes : List ℕ) → length bytes ≤ most_file_bytes
    → IfOk r (λ found. AreTable (records default_config (strip_bom bytes)) found.rows.items found.faults.items)
    → IfOk r (λ found. AreOfBytes bytes found.rows.items found.faults.items)
not_large (Ok found) bytes few table = inl (few, table)
not_large (Err why) bytes few table = tt

-- ---- how many rows are read

one_at_most : (a : Result HolidayRow HolidaysFault) → length (read_of a) ≤ 1
one_at_most (Ok h) = omega arith
one_at_most (Err why) = omega arith

each_few : (k : ℕ) (rows : List Fields) (found : List HolidayRow) (faults : List HolidaysFault) → AreEach k rows found faults
    → length found ≤ length rows
each_few k [] found faults each = let n = ap length each.0 in omega (arith, n)
each_few k (row ∷ rows) found faults each =
    let n = ap length each.5 ∙ length-append (read_of each.0) each.1 in
    let one = one_at_most each.0 in
    let more = each_few (k + 1) rows each.1 each.2 each.4 in
    omega (arith, n, one, more)

rows_few : (rows : List Fields) (found : List HolidayRow) (faults : List HolidaysFault) → AreRows rows found faults
    → length found ≤ most_table_rows
rows_few rows found faults (inl p) =
    let few = p.0 in
    let n = each_few 1 rows found faults p.1 in
    omega (arith, few, n)
rows_few rows found faults (inr p) =
    let many = p.many in
    let n = each_few 1 p.before found p.listed p.each in
    omega (arith, many, n)

table_few : (text : List Fields) (found : List HolidayRow) (faults : List HolidaysFault) → AreTable text found faults
    → length found ≤ most_table_rows
table_few text found faults (inl p) = rows_few p.0 found faults p.2
table_few text found faults (inr p) = let n = ap length p.1 in omega (arith, n)

-- no more than a table may have
pub bytes_few : (bytes : List ℕ) (found : List HolidayRow) (faults : List HolidaysFault) → AreOfBytes bytes found faults
    → length found ≤ most_table_rows
bytes_few bytes found faults (inl p) = table_few (records default_config (strip_bom bytes)) found faults p.1
bytes_few bytes found faults (inr p) = let n = ap length p.1 in omega (arith, n)
