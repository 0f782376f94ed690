-- What a file is and what reading it computes are the same.
use Rattle.std.proofs.Common.{◌≡◌, ap, refl, ◌<◌, ◌≤◌, ◌+◌, ◌⊎◌, inl, inr, ℕ, List, [], ◌∷◌, ◌++◌, length, arith}
use Rattle.std.proofs.Common.{add-zero}
use Rattle.std.specs.Prelude.{Result, Ok, Err}
use Rattle.csv.specs.Reading.{default_config, records, strip_bom}
use Rattle.gtd_core.specs.Limits.{most_rows}
use Rattle.gtd_records.specs.Closing.{Restriction}
use Rattle.gtd_rows.specs.Columns.{Fields}
use Rattle.gtd_records.specs.ComputedFile.{AreRecords}
use Rattle.gtd_records.specs.ComputedFile as computed
use Rattle.gtd_records.specs.ComputedRow.{IsRow}
use Rattle.gtd_records.specs.facts.RowForms.{computed_row, row_of}
use Rattle.gtd_records.specs.File.{AreRows, IsFile, IsTable}
use Rattle.gtd_records.specs.declared.fault.RecordFault.{RecordFault}
use Rattle.gtd_records.specs.declared.fault.RecordFault.TheVariants as fault
use Rattle.gtd_rows.specs.declared.vehicles.Version.{Version}

ok_is : (a b : List Restriction) → ◌≡◌ {A = Result (List Restriction) RecordFault} (Ok a) (Ok b) → a ≡ b
ok_is a b e = cc

-- ---- from what is computed

sound_rows : (v : Version) (k : ℕ) (rows : List Fields) (found : List Restriction) → k + length rows ≤ most_rows + 1
    → AreRecords v k rows found → AreRows v k rows (Ok found)
sound_rows v k [] found few are = ap Ok are
sound_rows v k (row ∷ rows) found few are = (
  omega (arith, few),
  are.0,
  are.1,
  row_of v k row (Ok are.0) are.2,
  sound_rows v (k + 1) rows are.1 (omega (arith, few)) are.3,
  are.4,
)

-- the row with this number is one too many, or has this fault
abbrev IsAtFault : Version → ℕ → Fields → RecordFault → Type 0
IsAtFault v k row why =
    ((k ≡ most_rows + 1) × (why ≡ fault.TooManyRows)) ⊎ ((k ≤ most_rows) × IsRow v k row (Err why))

at_fault : (v : Version) (k : ℕ) (row : Fields) (after : List Fields) (why : RecordFault) → IsAtFault v k row why
    → AreRows v k (row ∷ after) (Err why)
at_fault v k row after why (inl many) = let n = many.0 in inl (omega (arith, n), many.1)
at_fault v k row after why (inr bad) = inr (bad.0, inl (row_of v k row (Err why) bad.1))

first_fault : (v : Version) (k : ℕ) (before : List Fields) (row : Fields) (after : List Fields) (found : List Restriction)
    (why : RecordFault)
    → k + length before ≤ most_rows + 1 → AreRecords v k before found → IsAtFault v (k + length before) row why
    → AreRows v k (before ++ row ∷ after) (Err why)
first_fault v k [] row after found why few are bad =
    at_fault v k row after why (rw (add-zero k) at bad)
first_fault v k (b ∷ before) row after found why few are bad =
    let n : k + length (b ∷ before) ≡ k + 1 + length before = omega arith in
    inr (
      omega (arith, few),
      inr (
        are.0,
        row_of v k b (Ok are.0) are.2,
        first_fault v (k + 1) before row after are.1 why (omega (arith, few)) are.3 (rw n at bad),
      ),
    )

cause : (v : Version) (n : ℕ) (row : Fields) (why : RecordFault)
    → ((n ≡ most_rows) × (why ≡ fault.TooManyRows)) ⊎ ((n < most_rows) × IsRow v (n + 1) row (Err why))
    → IsAtFault v (n + 1) row why
cause v n row why (inl many) = let e = many.0 in inl (omega (arith, e), many.1)
cause v n row why (inr bad) = let l = bad.0 in inr (omega (arith, l), bad.1)

rows_of : (v : Version) (rows : List Fields) (answer : Result (List Restriction) RecordFault)
    → computed.AreRows v rows answer → AreRows v 1 rows answer
rows_of v rows (Ok found) are = let few = are.0 in sound_rows v 1 rows found (omega (arith, few)) are.1
rows_of v rows (Err why) are =
    let few = are.sound.0 in
    let n : length are.before + 1 ≡ 1 + length are.before = omega arith in
    let bad = cause v (length are.before) are.row why are.fault in
    rw (are.split) (first_fault v 1 are.before are.row are.after are.found why (omega (arith, few)) are.sound.1 (rw n at bad))

-- ---- to what is computed

records_of : (v : Version) (k : ℕ) (rows : List Fields) (found : List Restriction) → AreRows v k rows (Ok found)
    → AreRecords v k rows found
records_of v k [] found are = ok_is found [] are
records_of v k (row ∷ rows) found are = (
  are.1,
  are.2,
  computed_row v k row (Ok are.1) are.3,
  records_of v (k + 1) rows are.2 are.4,
  are.5,
)

few_rows : (v : Version) (k : ℕ) (rows : List Fields) (found : List Restriction) → k ≤ most_rows + 1
    → AreRows v k rows (Ok found) → k + length rows ≤ most_rows + 1
few_rows v k [] found few are = omega (arith, few)
few_rows v k (row ∷ rows) found few are =
    let here = are.0 in
    let more = few_rows v (k + 1) rows are.2 (omega (arith, here)) are.4 in
    omega (arith, more)

-- the first row at fault, if the first of all has this number
record FaultFrom (v : Version) (k : ℕ) (rows : List Fields) (why : RecordFault) : Type 0 where
  before : List Fields
  row : Fields
  after : List Fields
  split : rows ≡ before ++ row ∷ after
  found : List Restriction
  few : k + length before ≤ most_rows + 1
  sound : AreRecords v k before found
  fault : IsAtFault v (k + length before) row why

here_first : (v : Version) (k : ℕ) (row : Fields) (rows : List Fields) (why : RecordFault) → k ≤ most_rows + 1
    → IsAtFault v k row why → FaultFrom v k (row ∷ rows) why
here_first v k row rows why few bad = record {
  before = [];
  row = row;
  after = rows;
  split = refl;
  found = [];
  few = omega (arith, few);
  sound = refl;
  fault = rw (add-zero k) bad;
}

later_first : (v : Version) (k : ℕ) (row : Fields) (rows : List Fields) (why : RecordFault) (r : Restriction)
    → IsRow v k row (Ok r) → FaultFrom v (k + 1) rows why → FaultFrom v k (row ∷ rows) why
later_first v k row rows why r is more =
    let few = more.few in
    let n : k + 1 + length more.before ≡ k + length (row ∷ more.before) = omega arith in
    record {
      before = row ∷ more.before;
      row = more.row;
      after = more.after;
      split = ap (λ (l : List Fields). row ∷ l) more.split;
      found = r ∷ more.found;
      few = omega (arith, few);
      sound = (r, more.found, is, more.sound, refl);
      fault = (rw n at more.fault);
    }

fault_from : (v : Version) (k : ℕ) (rows : List Fields) (why : RecordFault) → k ≤ most_rows + 1
    → AreRows v k rows (Err why) → FaultFrom v k rows why
fault_from v k [] why few are = absurd cc
fault_from v k (row ∷ rows) why few (inl many) =
    let n = many.0 in here_first v k row rows why few (inl (omega (arith, few, n), many.1))
fault_from v k (row ∷ rows) why few (inr (l, inl bad)) =
    here_first v k row rows why few (inr (l, computed_row v k row (Err why) bad))
fault_from v k (row ∷ rows) why few (inr (l, inr more)) =
    later_first v k row rows why more.0 (computed_row v k row (Ok more.0) more.1)
    (fault_from v (k + 1) rows why (omega (arith, l)) more.2)

as_cause : (v : Version) (n : ℕ) (row : Fields) (why : RecordFault) → IsAtFault v (n + 1) row why
    → ((n ≡ most_rows) × (why ≡ fault.TooManyRows)) ⊎ ((n < most_rows) × IsRow v (n + 1) row (Err why))
as_cause v n row why (inl many) = let e = many.0 in inl (omega (arith, e), many.1)
as_cause v n row why (inr bad) = let l = bad.0 in inr (omega (arith, l), bad.1)

computed_rows : (v : Version) (rows : List Fields) (answer : Result (List Restriction) RecordFault)
    → AreRows v 1 rows answer → computed.AreRows v rows answer
computed_rows v rows (Ok found) are =
    let few = few_rows v 1 rows found (omega arith) are in
    (omega (arith, few), records_of v 1 rows found are)
computed_rows v rows (Err why) are =
    let f = fault_from v 1 rows why (omega arith) are in
    let few = f.few in
    let n : 1 + length f.before ≡ length f.before + 1 = omega arith in
    record {
      before = f.before;
      row = f.row;
      after = f.after;
      split = f.split;
      found = f.found;
      sound = (omega (arith, few), f.sound);
      fault = as_cause v (length f.before) f.row why (rw n at f.fault);
    }

-- ---- tables and files

pub table_of : (text : List Fields) (answer : Result (List Restriction) RecordFault) → computed.IsTable text answer
    → IsTable text answer
table_of text answer (inl t) = inl (t.0, t.1, t.2, rows_of t.0 t.1 answer t.3)
table_of text answer (inr t) = inr t

pub computed_table : (text : List Fields) (answer : Result (List Restriction) RecordFault) → IsTable text answer
    → computed.IsTable text answer
computed_table text answer (inl t) = inl (t.0, t.1, t.2, computed_rows t.0 t.1 answer t.3)
computed_table text answer (inr t) = inr t

pub file_of : (bytes : List ℕ) (answer : Result (List Restriction) RecordFault) → computed.IsFile bytes answer
    → IsFile bytes answer
file_of bytes answer (inl f) = inl (f.0, table_of (records default_config (strip_bom bytes)) answer f.1)
file_of bytes answer (inr f) = inr f

pub computed_file : (bytes : List ℕ) (answer : Result (List Restriction) RecordFault) → IsFile bytes answer
    → computed.IsFile bytes answer
computed_file bytes answer (inl f) = inl (f.0, computed_table (records default_config (strip_bom bytes)) answer f.1)
computed_file bytes answer (inr f) = inr f
