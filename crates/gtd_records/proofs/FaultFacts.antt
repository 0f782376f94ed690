-- All faults of a record file.
use Rattle.std.proofs.Common.{◌≡◌, ◌∙◌, sym, ap, refl, subst, arith, ◌<◌, ◌≤◌, ◌+◌, ◌⊎◌, inl, inr, ◌↔◌, ℕ, List}
use Rattle.std.proofs.Common.{[], ◌∷◌, ◌++◌, length, length-append, append_assoc, add-zero}
use Rattle.std.specs.Prelude.{Result, Ok, Err}
use Rattle.csv.specs.Reading.{default_config, records, strip_bom}
use Rattle.gtd_records.specs.Faults.{AreFaults, AreFileFaults, AreRowFaults, AreTableFaults, with_fault}
use Rattle.gtd_core.specs.Limits.{most_file_bytes, most_rows}
use Rattle.gtd_records.specs.ComputedFile.{AreRecords, FirstFault, IsFile, AreSoundRows, IsTable}
use Rattle.gtd_records.specs.ComputedRow.{IsRow}
use Rattle.gtd_records.specs.Closing.{Restriction}
use Rattle.gtd_rows.specs.Columns.{Fields}
use Rattle.gtd_records.specs.declared.fault.RecordFault.{RecordFault}
use Rattle.gtd_records.specs.declared.fault.RecordFault.TheVariants as fault
use Rattle.gtd_rows.specs.declared.vehicles.Version.{Version}

-- ---- none is listed exactly if all rows stand for restrictions

none_is : (v : Version) (k : ℕ) (rows : List Fields) (faults : List RecordFault) → faults ≡ [] → AreRowFaults v k rows faults
    → (found : List Restriction) × AreRecords v k rows found
none_is v k [] faults e are = ([], refl)
none_is v k (row ∷ rows) faults e are = by_answer are.0 are.2 are.4 (λ h. none_is v (k + 1) rows are.1 h are.3)
  where
    by_answer : (a : Result Restriction RecordFault) → IsRow v k row a → faults ≡ with_fault a are.1
        → (are.1 ≡ [] → (found : List Restriction) × AreRecords v (k + 1) rows found) → (found : List Restriction)
        × AreRecords v k (row ∷ rows) found
    by_answer (Ok r) is whole later = let more = later (sym whole ∙ e) in (r ∷ more.0, (r, more.0, is, more.1, refl))
    by_answer (Err why) is whole later = let no : why ∷ are.1 ≡ [] = sym whole ∙ e in cc

is_none : (v : Version) (k : ℕ) (rows : List Fields) (found : List Restriction) → AreRecords v k rows found
    → AreRowFaults v k rows []
is_none v k [] found are = refl
is_none v k (row ∷ rows) found are = (Ok are.0, [], are.2, is_none v (k + 1) rows are.1 are.3, refl)

-- ---- the first that is listed is of the first row at fault

pub record First (v : Version) (k : ℕ) (rows : List Fields) (why : RecordFault) : Type 0 where
  pub before : List Fields
  pub row : Fields
  pub after : List Fields
  pub split : rows ≡ before ++ row ∷ after
  pub found : List Restriction
  pub sound : AreRecords v k before found
  pub fault : IsRow v (k + length before) row (Err why)

first_is : (v : Version) (k : ℕ) (rows : List Fields) (faults rest : List RecordFault) (why : RecordFault) → faults ≡ why ∷ rest
    → AreRowFaults v k rows faults
    → First v k rows why
first_is v k [] faults rest why e are = let no : why ∷ rest ≡ [] = sym e ∙ are in cc
first_is v k (row ∷ rows) faults rest why e are = by_answer are.0 are.2 are.4
    (λ h. first_is v (k + 1) rows are.1 rest why h are.3)
  where
    same : (a : RecordFault) → a ∷ are.1 ≡ why ∷ rest → a ≡ why
    same a h = cc

    by_answer : (a : Result Restriction RecordFault) → IsRow v k row a → faults ≡ with_fault a are.1
        → (are.1 ≡ why ∷ rest → First v (k + 1) rows why) → First v k (row ∷ rows) why
    by_answer (Ok r) is whole later =
        let more = later (sym whole ∙ e) in
        let n : k + 1 + length more.before ≡ k + length (row ∷ more.before) = omega arith in
        record {
          before = row ∷ more.before;
          row = more.row;
          after = more.after;
          split = ap (λ (l : List Fields). row ∷ l) more.split;
          found = r ∷ more.found;
          sound = (r, more.found, is, more.sound, refl);
          fault = subst (λ (i : ℕ). IsRow v i more.row (Err why)) n more.fault;
        }
    by_answer (Err a) is whole later =
        let s : a ≡ why = same a (sym whole ∙ e) in
        record {
          before = [];
          row = row;
          after = rows;
          split = refl;
          found = [];
          sound = refl;
          fault = rw (add-zero k, ← s) is;
        }

first_fault : (v : Version) (rows : List Fields) (why : RecordFault) → length rows ≤ most_rows → First v 1 rows why
    → FirstFault v rows why
first_fault v rows why few f =
    let l = ap length f.split ∙ length-append f.before (f.row ∷ f.after) in
    let n : 1 + length f.before ≡ length f.before + 1 = omega arith in
    record {
      before = f.before;
      row = f.row;
      after = f.after;
      split = f.split;
      found = f.found;
      sound = (omega (arith, l, few), f.sound);
      fault = inr (omega (arith, l, few), subst (λ (i : ℕ). IsRow v i f.row (Err why)) n f.fault);
    }

-- ---- the rows

listed_first : (listed rest : List RecordFault) (why : RecordFault) → why ∷ rest ≡ listed ++ (fault.TooManyRows ∷ [])
    → ((listed ≡ []) × (why ≡ fault.TooManyRows)) ⊎ ((more : List RecordFault) × (listed ≡ why ∷ more))
listed_first [] rest why e = inl (refl, head why fault.TooManyRows rest [] e)
  where
    head : (a b : RecordFault) (xs ys : List RecordFault) → a ∷ xs ≡ b ∷ ys → a ≡ b
    head a b xs ys h = cc
listed_first (x ∷ xs) rest why e = inr (
  xs,
  ap (λ (a : RecordFault). a ∷ xs)
      (head x why (xs ++ (fault.TooManyRows ∷ [])) rest (sym e)),
)
  where
    head : (a b : RecordFault) (xs ys : List RecordFault) → a ∷ xs ≡ b ∷ ys → a ≡ b
    head a b xs ys h = cc

none_of_rows : (v : Version) (rows : List Fields) → AreFaults v rows [] → (found : List Restriction) × AreSoundRows v rows found
none_of_rows v rows (inl p) = let n = none_is v 1 rows [] refl p.1 in (n.0, (p.0, n.1))
none_of_rows v rows (inr p) = let l = ap length p.whole ∙ length-append p.listed (fault.TooManyRows ∷ []) in
    absurd (omega (arith, l))

first_of_rows : (v : Version) (rows : List Fields) (why : RecordFault) (rest : List RecordFault) → AreFaults v rows (why ∷ rest)
    → FirstFault v rows why
first_of_rows v rows why rest (inl p) = first_fault v rows why p.0 (first_is v 1 rows (why ∷ rest) rest why refl p.1)
first_of_rows v rows why rest (inr p) =
    elim (listed_first p.listed rest why p.whole) [
      | inl h ↦ let n = none_is v 1 p.before p.listed h.0 p.each in record {
        before = p.before;
        row = p.row;
        after = p.after;
        split = p.split;
        found = n.0;
        sound = (let m = p.many in omega arith, n.1);
        fault = inl (p.many, h.1);
      }
      | inr h ↦
          let f = first_fault v p.before why (let m = p.many in omega arith)
          (first_is v 1 p.before p.listed h.0 why h.1 p.each) in
          record {
            before = f.before;
            row = f.row;
            after = f.after ++ p.row ∷ p.after;
            split = p.split ∙ ap (λ (l : List Fields). l ++ p.row ∷ p.after) f.split
                ∙ append_assoc f.before (f.row ∷ f.after) (p.row ∷ p.after);
            found = f.found;
            sound = f.sound;
            fault = f.fault;
          }
    ]

-- ---- the file

none_of_table : (text : List Fields) → AreTableFaults text [] → (found : List Restriction) × IsTable text (Ok found)
none_of_table text (inl p) = let n = none_of_rows p.0 p.1 p.3 in (n.0, inl (p.0, p.1, p.2, n.1))
none_of_table text (inr p) = cc (p.1)

table_of_none : (text : List Fields) (found : List Restriction) → IsTable text (Ok found) → AreTableFaults text []
table_of_none text found (inl p) = inl (p.0, p.1, p.2, inl (p.3.0, is_none p.0 1 p.1 found p.3.1))
table_of_none text found (inr p) = absurd (cc (p.1))

first_of_table : (text : List Fields) (why : RecordFault) (rest : List RecordFault) → AreTableFaults text (why ∷ rest)
    → IsTable text (Err why)
first_of_table text why rest (inl p) = inl (p.0, p.1, p.2, first_of_rows p.0 p.1 why rest p.3)
first_of_table text why rest (inr p) = inr (p.0, head why fault.Header rest (p.1))
  where
    head : (a b : RecordFault) (xs : List RecordFault) → a ∷ xs ≡ b ∷ []
        → ◌≡◌ {A = Result (List Restriction) RecordFault} (Err a) (Err b)
    head a b xs h = cc

none_of_file : (bytes : List ℕ) → AreFileFaults bytes [] → (found : List Restriction) × IsFile bytes (Ok found)
none_of_file bytes (inl p) = let t = none_of_table (records default_config (strip_bom bytes)) p.1 in (t.0, inl (p.0, t.1))
none_of_file bytes (inr p) = cc (p.1)

file_of_none : (bytes : List ℕ) (found : List Restriction) → IsFile bytes (Ok found) → AreFileFaults bytes []
file_of_none bytes found (inl p) = inl (p.0, table_of_none (records default_config (strip_bom bytes)) found p.1)
file_of_none bytes found (inr p) = absurd (cc (p.1))

-- no fault is listed exactly if the file is accepted
pub accepted : (bytes : List ℕ) → AreFileFaults bytes [] ↔ ((found : List Restriction) × IsFile bytes (Ok found))
accepted bytes = ((λ h. none_of_file bytes h), (λ h. file_of_none bytes h.0 h.1))

-- the first that is listed is the first fault of the file
pub first_listed : (bytes : List ℕ) (why : RecordFault) (rest : List RecordFault) → AreFileFaults bytes (why ∷ rest)
    → IsFile bytes (Err why)
first_listed bytes why rest (inl p) = inl (p.0, first_of_table (records default_config (strip_bom bytes)) why rest p.1)
first_listed bytes why rest (inr p) = inr (p.0, head why fault.TooLarge rest (p.1))
  where
    head : (a b : RecordFault) (xs : List RecordFault) → a ∷ xs ≡ b ∷ []
        → ◌≡◌ {A = Result (List Restriction) RecordFault} (Err a) (Err b)
    head a b xs h = cc

-- ---- a fault that comes alone

pub large : (bytes : List ℕ) → most_file_bytes < length bytes → (faults : List RecordFault) → faults ≡ fault.TooLarge ∷ []
    → AreFileFaults bytes faults
large bytes many faults is = inr (many, is)
