-- What the rows that were read so far say, and what all of them do.
use Rattle.std.proofs.Common.{◌≡◌, ◌∙◌, sym, ap, refl, subst, arith, ◌<◌, ◌≤◌, ◌+◌, inl, inr, ℕ, zero, suc}
use Rattle.std.proofs.Common.{List, [], ◌∷◌, ◌++◌, length, length-append, append_assoc}
use Rattle.std.specs.Prelude.{Result, Ok, Err, IfOk}
use Rattle.std.specs.List.{All}
use Rattle.std.proofs.lemmas.List.{append-nil}
use Rattle.csv.specs.Reading.{default_config, records, strip_bom}
use Rattle.gtd_core.specs.Limits.{most_file_bytes, most_rows}
use Rattle.gtd_rows.specs.Columns.{Fields}
use Rattle.gtd_rows.specs.Taking.{AreAllTaken, AreTableTaken, HasHeader}
use Rattle.gtd_rows.specs.declared.rows.RowsEnd.TheVariants.{All as AllRows, NoHeader, TooMany}
use Rattle.gtd_hours_options.specs.Readings.{HowRead, how_read}
use Rattle.gtd_hours_file.specs.HoursFile.{AreEach, AreOfFile, AreRows, AreTable, IsRow, faults_of, header}
use Rattle.gtd_hours_file.specs.HoursFile.{sound_of}
use Rattle.gtd_hours_file.specs.PuttingRows.{IsWithin}
use Rattle.gtd_hours_file.specs.TakenRows.{BeginsReading, TakesRow}
use Rattle.gtd_hours_file.specs.declared.fault.HoursFileFault.{HoursFileFault}
use Rattle.gtd_hours_file.specs.declared.fault.HoursFileFault.TheVariants as fault
use Rattle.gtd_hours_file.specs.declared.file.Found.{Found}
use Rattle.gtd_hours_file.specs.declared.file.Reading.{Reading}
use Rattle.gtd_hours_file.specs.declared.row.HoursRow.{HoursRow}
use Rattle.gtd_hours_file.proofs.RowFacts.{row_within}

-- what the rows add that were taken one after another
each_taken : (k : ℕ) (rows : List Fields) (old new : Reading) → AreAllTaken TakesRow k rows old new
    → (sound : List HoursRow) × (faults : List HoursFileFault) × AreEach (how_read old.by) k rows sound faults
    × (new.found.sound.items ≡ old.found.sound.items ++ sound) × (new.found.faults.items ≡ old.found.faults.items ++ faults)
each_taken k [] old new same = (
  [],
  [],
  (refl, refl),
  ap (λ (r : Reading). r.found.sound.items) same ∙ sym (append-nil old.found.sound.items),
  ap (λ (r : Reading). r.found.faults.items) same ∙ sym (append-nil old.found.faults.items),
)
each_taken k (row ∷ rows) old new taken =
    let one = taken.1 in
    let a = one.0 in
    let more = each_taken (k + 1) rows taken.0 new taken.2 in (
      sound_of a ++ more.0,
      faults_of a ++ more.1,
      (
        a,
        more.0,
        more.1,
        one.1,
        subst (λ (m : HowRead). AreEach m (k + 1) rows more.0 more.1) (ap how_read one.4) more.2,
        refl,
        refl,
      ),
      more.3 ∙ ap (λ (l : List HoursRow). l ++ more.0) one.2 ∙ append_assoc old.found.sound.items (sound_of a) more.0,
      more.4 ∙ ap (λ (l : List HoursFileFault). l ++ more.1) one.3
          ∙ append_assoc old.found.faults.items (faults_of a) more.1,
    )

-- the same, where nothing was found before
all_taken : (rows : List Fields) (old new : Reading) → old.found.sound.items ≡ [] → old.found.faults.items ≡ []
    → AreAllTaken TakesRow 1 rows old new → AreEach (how_read old.by) 1 rows new.found.sound.items new.found.faults.items
all_taken rows old new sound faults taken =
    let all = each_taken 1 rows old new taken in
    let s : new.found.sound.items ≡ all.0 = all.3 ∙ ap (λ (l : List HoursRow). l ++ all.0) sound in
    let f : new.found.faults.items ≡ all.1 = all.4 ∙ ap (λ (l : List HoursFileFault). l ++ all.1) faults in
    subst (λ (l : List HoursRow). AreEach (how_read old.by) 1 rows l new.found.faults.items) (sym s)
    (subst (λ (l : List HoursFileFault). AreEach (how_read old.by) 1 rows all.0 l) (sym f) all.2)

-- the same of rows that were taken from another reading, in the same way
all_taken_in : (how : HowRead) (rows : List Fields) (old new : Reading) → how_read old.by ≡ how → old.found.sound.items ≡ []
    → old.found.faults.items ≡ [] → AreAllTaken TakesRow 1 rows old new
    → AreEach how 1 rows new.found.sound.items new.found.faults.items
all_taken_in how rows old new same sound faults taken =
    subst (λ (m : HowRead). AreEach m 1 rows new.found.sound.items new.found.faults.items) same
    (all_taken rows old new sound faults taken)

module _ (text : List Fields) (old new : Reading) (sound : old.found.sound.items ≡ [])
    (faults : old.found.faults.items ≡ []) where
  pub table_read : HasHeader BeginsReading TakesRow text old new AllRows
      → AreTable (how_read old.by) text new.found.sound.items new.found.faults.items
  table_read h =
      let e = h.begun in
      inl (
        h.rows,
        h.split ∙ ap (λ (f : Fields). f ∷ h.rows) (e.0.0 refl),
        inl (h.taken.0, all_taken_in (how_read old.by) h.rows h.at new (ap how_read e.3) (e.1 ∙ sound) (e.2 ∙ faults) h.taken.1),
      )

  pub table_too_long : HasHeader BeginsReading TakesRow text old new TooMany
      → AreTable (how_read old.by) text new.found.sound.items (new.found.faults.items ++ (fault.TooManyRows ∷ []))
  table_too_long h =
      let e = h.begun in
      let m = h.taken in
      inl (
        h.rows,
        h.split ∙ ap (λ (f : Fields). f ∷ h.rows) (e.0.0 refl),
        inr (record {
          before = m.before;
          row = m.row;
          after = m.after;
          split = m.split;
          many = m.many;
          listed = new.found.faults.items;
          each = all_taken_in (how_read old.by) m.before h.at new (ap how_read e.3) (e.1 ∙ sound) (e.2 ∙ faults) m.taken;
          whole = refl;
        }),
      )

-- ---- a fault that comes alone

no_first : (text : List Fields) (old new : Reading) → AreTableTaken BeginsReading TakesRow text old new NoHeader
    → (rows : List Fields) → text ≡ header ∷ rows → ⊥
no_first text old new (inl p) rows e = let nil = p.0 in cc
no_first text old new (inr h) rows e = let no = h.3.0.1 (let same : h.0 ≡ header = (let s = h.2 in cc) in same) in cc

pub no_header : {E : Type 0} (how : HowRead) (r : Result Found E) (text : List Fields) (old new : Reading)
    → AreTableTaken BeginsReading TakesRow text old new NoHeader
    → IfOk r (λ found. found.sound.items ≡ []) → IfOk r (λ found. found.faults.items ≡ fault.Header ∷ [])
    → IfOk r (λ found. AreTable how text found.sound.items found.faults.items)
no_header how (Ok found) text old new taken sound faults = inr (no_first text old new taken, sound, faults)
no_header how (Err why) text old new taken sound faults = tt

pub large : {E : Type 0} (how : HowRead) (r : Result Found E) (bytes : List ℕ) → most_file_bytes < length bytes
    → IfOk r (λ found. found.sound.items ≡ []) → IfOk r (λ found. found.faults.items ≡ fault.TooLarge ∷ [])
    → IfOk r (λ found. AreOfFile how bytes found.sound.items found.faults.items)
large how (Ok found) bytes more sound faults = inr (more, sound, faults)
large how (Err why) bytes more sound faults = tt

-- ---- what holds of the rows of a file

all_nil : All IsWithin []
all_nil k d h = absurd (omega arith)

all_cons : (h : HoursRow) (sound : List HoursRow) → IsWithin h → All IsWithin sound → All IsWithin (h ∷ sound)
all_cons h sound one more zero d l = one
all_cons h sound one more (suc k) d l = more k d (omega arith)

with_row : (how : HowRead) (a : Result HoursRow HoursFileFault) (k : ℕ) (fields : Fields) (more : List HoursRow)
    → IsRow how k fields a
    → All IsWithin more → All IsWithin (sound_of a ++ more)
with_row how (Ok h) k fields more is all = all_cons h more (row_within how k fields h is) all
with_row how (Err why) k fields more is all = all

each_within : (how : HowRead) (k : ℕ) (rows : List Fields) (sound : List HoursRow) (faults : List HoursFileFault)
    → AreEach how k rows sound faults → All IsWithin sound
each_within how k [] sound faults each = rw (each.0) all_nil
each_within how k (row ∷ rows) sound faults each =
    rw (each.5) (with_row how each.0 k row each.1 each.3 (each_within how (k + 1) rows each.1 each.2 each.4))

one_at_most : (a : Result HoursRow HoursFileFault) → length (sound_of a) ≤ 1
one_at_most (Ok h) = omega arith
one_at_most (Err why) = omega arith

each_few : (how : HowRead) (k : ℕ) (rows : List Fields) (sound : List HoursRow) (faults : List HoursFileFault)
    → AreEach how k rows sound faults → length sound ≤ length rows
each_few how k [] sound faults each = let n = ap length each.0 in omega arith
each_few how k (row ∷ rows) sound faults each =
    let n = ap length each.5 ∙ length-append (sound_of each.0) each.1 in
    let one = one_at_most each.0 in
    let more = each_few how (k + 1) rows each.1 each.2 each.4 in
    omega arith

rows_within : (how : HowRead) (rows : List Fields) (sound : List HoursRow) (faults : List HoursFileFault)
    → AreRows how rows sound faults → All IsWithin sound
rows_within how rows sound faults (inl p) = each_within how 1 rows sound faults p.1
rows_within how rows sound faults (inr p) = each_within how 1 p.before sound p.listed p.each

rows_few : (how : HowRead) (rows : List Fields) (sound : List HoursRow) (faults : List HoursFileFault)
    → AreRows how rows sound faults → length sound ≤ most_rows
rows_few how rows sound faults (inl p) = let few = p.0 in let n = each_few how 1 rows sound faults p.1 in omega arith
rows_few how rows sound faults (inr p) = let many = p.many in let n = each_few how 1 p.before sound p.listed p.each in omega arith

table_within : (how : HowRead) (text : List Fields) (sound : List HoursRow) (faults : List HoursFileFault)
    → AreTable how text sound faults → All IsWithin sound
table_within how text sound faults (inl p) = rows_within how p.0 sound faults p.2
table_within how text sound faults (inr p) = rw (p.1) all_nil

table_few : (how : HowRead) (text : List Fields) (sound : List HoursRow) (faults : List HoursFileFault)
    → AreTable how text sound faults → length sound ≤ most_rows
table_few how text sound faults (inl p) = rows_few how p.0 sound faults p.2
table_few how text sound faults (inr p) = let n = ap length p.1 in omega arith

-- the hours of each row take few enough basic domains
pub file_within : (how : HowRead) (bytes : List ℕ) (sound : List HoursRow) (faults : List HoursFileFault)
    → AreOfFile how bytes sound faults → All IsWithin sound
file_within how bytes sound faults (inl p) = table_within how (records default_config (strip_bom bytes)) sound faults p.1
file_within how bytes sound faults (inr p) = rw (p.1) all_nil

-- and there are not too many rows
pub file_few : (how : HowRead) (bytes : List ℕ) (sound : List HoursRow) (faults : List HoursFileFault)
    → AreOfFile how bytes sound faults → length sound ≤ most_rows
file_few how bytes sound faults (inl p) = table_few how (records default_config (strip_bom bytes)) sound faults p.1
file_few how bytes sound faults (inr p) = let n = ap length p.1 in omega arith

-- a file without a fault is one of rows alone
pub without_faults : (how : HowRead) (bytes : List ℕ) (sound : List HoursRow) (faults : List HoursFileFault)
    → length faults ≡ 0 → AreOfFile how bytes sound faults → AreOfFile how bytes sound []
without_faults how bytes sound [] none are = are
without_faults how bytes sound (why ∷ faults) none are = absurd (omega arith)
