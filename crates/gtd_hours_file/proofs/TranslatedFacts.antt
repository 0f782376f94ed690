-- What rows are translated to, as a record file.
use Rattle.std.proofs.Common.{◌≡◌, ◌∙◌, ◌<◌, ◌≤◌, ◌+◌, ap, refl, sym, subst, arith, inl, inr, ℕ, List, [], ◌∷◌, ◌++◌, length}
use Rattle.std.proofs.Common.{length-append, Option, Some, None}
use Rattle.std.specs.Prelude.{Result, Ok, Err}
use Rattle.csv.specs.Reading.{default_config, records, strip_bom}
use Rattle.gtd_core.specs.Limits.{most_file_bytes}
use Rattle.gtd_core.specs.Parts.{domain_tree}
use Rattle.gtd_core.specs.Trees.{Tree, Single, Joined}
use Rattle.gtd_core.specs.declared.domain.Domain.{Domain}
use Rattle.gtd_migrate.specs.Migrated.{domain_text, migrated}
use Rattle.gtd_records.specs.Closing.{Restriction}
use Rattle.gtd_rows.specs.Columns.{Fields}
use Rattle.gtd_records.specs.ComputedFile.{AreRecords, AreSoundRows}
use Rattle.gtd_records.specs.ComputedRow.{IsDomainColumn}
use Rattle.gtd_records.specs.File.{IsFile}
use Rattle.gtd_records.specs.ComputedRow as record_file
use Rattle.gtd_rows.specs.declared.vehicles.Version.{Version}
use Rattle.gtd_rows.specs.declared.vehicles.Version.TheVariants as version
use Rattle.gtd_records.specs.facts.RowFacts as record_rows
use Rattle.gtd_report.specs.Putting.{text_of}
use Rattle.gtd_text.specs.Canonical.{canonical}
use Rattle.gtd_text.specs.Reading.{HasNoFault, StandsFor}
use Rattle.gtd_hours_options.specs.Readings.{HowRead}
use Rattle.gtd_hours_file.specs.HoursFile.{AreEach, AreOfFile, AreRows, AreTable, IsRow, faults_of, sound_of}
use Rattle.gtd_hours_file.specs.Translated.{IsDomainOf, IsTranslated, IsTranslation}
use Rattle.gtd_hours_file.specs.declared.fault.HoursFileFault.{HoursFileFault}
use Rattle.gtd_hours_file.specs.declared.fault.HoursFileFault.TheVariants as fault
use Rattle.gtd_hours_file.specs.declared.row.HoursRow.{HoursRow}
use Rattle.gtd_hours_file.specs.declared.row.RowHours.{RowHours}
use Rattle.gtd_hours_file.proofs.RowFacts.{AreColumnsOf, columns_of}

-- rows and restrictions are one for one
pub same_count : (rows : List HoursRow) (found : List Restriction) → IsTranslation rows found → length found ≡ length rows
same_count [] found is = ap length is
same_count (row ∷ rows) found is =
    let n = same_count rows is.1 is.3 in
    let e = ap length is.4 in
    omega arith

-- a text of a domain is not empty
some_text : (tree : Tree) → 0 < length (canonical tree)
some_text (Single start duration) = simp length-append (omega arith)
some_text (Joined op left right) = simp length-append (omega arith)

module _ (how : HowRead) (stands : (domain : Domain) → StandsFor (canonical (domain_tree domain)) (domain_tree domain))
    (faultless : (domain : Domain) → HasNoFault (canonical (domain_tree domain))) where
  -- the text of a domain is read as it
  column_read : (hours : Option RowHours) (tree : Option Tree) → IsDomainOf hours tree
      → IsDomainColumn (domain_text tree) (Ok tree)
  column_read None tree is = subst (λ (t : Option Tree). IsDomainColumn (domain_text t) (Ok t)) (sym is) refl
  column_read (Some hours) tree is =
      let text = canonical (domain_tree is.0) in
      subst (λ (t : Option Tree). IsDomainColumn (domain_text t) (Ok t)) (sym is.1)
      (record_rows.a_column text (domain_tree is.0) (some_text (domain_tree is.0)) (stands is.0, faultless is.0))

  -- the row of a record file that stands for a restriction
  abbrev HasRecord : ℕ → Restriction → Type 0
  HasRecord row r = (other : Fields) × record_file.IsRow version.Two row other (Ok r)

  full_record : (row : ℕ) (a b c d : List ℕ) (h : HoursRow) (r : Restriction) → AreColumnsOf how row a b c d h → IsTranslated h r
      → HasRecord row r
  full_record row a b c d h r are is =
      let other = a ∷ b ∷ c ∷ domain_text r.domain ∷ [] in
      let made = record_rows.full_row version.Two row other a b c (domain_text r.domain) h.element h.closed h.vehicles
      (Ok r.domain) refl are.element are.closed are.vehicles (column_read h.hours r.domain is.domain) in
      let same : record { element = h.element; closed = h.closed; vehicles = h.vehicles; domain = r.domain } ≡ r =
      (let e = is.element in let f = is.closed in let v = is.vehicles in rw (← e, ← f, ← v) refl) in
      (other, subst (λ (x : Restriction). record_file.IsRow version.Two row other (Ok x)) same made)

  row_record : (row : ℕ) (fields : Fields) (h : HoursRow) (r : Restriction) → IsRow how row fields (Ok h) → IsTranslated h r
      → HasRecord row r
  row_record row [] h r is t = absurd cc
  row_record row (a ∷ []) h r is t = absurd cc
  row_record row (a ∷ b ∷ []) h r is t = absurd cc
  row_record row (a ∷ b ∷ c ∷ []) h r is t = absurd cc
  row_record row (a ∷ b ∷ c ∷ d ∷ []) h r is t = full_record row a b c d h r (columns_of how row a b c d h is) t
  row_record row (a ∷ b ∷ c ∷ d ∷ e ∷ more) h r is t = absurd cc

  -- so rows without a fault are translated to rows of a record file
  abbrev HasRecords : ℕ → ℕ → List Restriction → Type 0
  HasRecords number count found =
      (others : List Fields) × (length others ≡ count) × AreRecords version.Two number others found

  by_answer : (number : ℕ) (row : Fields) (rows : List Fields) (a : Result HoursRow HoursFileFault) (sound more : List HoursRow)
      (faults others : List HoursFileFault) (found : List Restriction) → faults ≡ [] → IsRow how number row a
      → sound ≡ sound_of a ++ more → faults ≡ faults_of a ++ others → IsTranslation sound found
      → ((rest : List Restriction) → others ≡ [] → IsTranslation more rest → HasRecords (number + 1) (length rows) rest)
      → HasRecords number (length (row ∷ rows)) found
  by_answer number row rows (Ok h) sound more faults others found none is e f t later =
      let made : IsTranslation (h ∷ more) found = subst (λ (l : List HoursRow). IsTranslation l found) e t in
      let first = row_record number row h made.0 is made.2 in
      let rest = later made.1 (sym f ∙ none) made.3 in
      let n = rest.1 in
      (first.0 ∷ rest.0, omega arith, (made.0, made.1, first.1, rest.2, made.4))
  by_answer number row rows (Err why) sound more faults others found none is e f t later =
      let no : why ∷ others ≡ [] = sym f ∙ none in absurd cc

  each_record : (number : ℕ) (rows : List Fields) (sound : List HoursRow) (faults : List HoursFileFault)
      (found : List Restriction) → faults ≡ [] → AreEach how number rows sound faults → IsTranslation sound found
      → HasRecords number (length rows) found
  each_record number [] sound faults found none each t =
      let nil : IsTranslation [] found = subst (λ (l : List HoursRow). IsTranslation l found) each.0 t in
      ([], refl, nil)
  each_record number (row ∷ rows) sound faults found none each t =
      by_answer number row rows each.0 sound each.1 faults each.2 found none each.3 each.5 each.6 t
      (λ rest nil left. each_record (number + 1) rows each.1 each.2 rest nil each.4 left)

  module _ (accepted : (v : Version) (rows : List Fields) (found : List Restriction) → AreSoundRows v rows found
      → length (text_of (migrated found)) ≤ most_file_bytes → IsFile (text_of (migrated found)) (Ok found)) where
    rows_accepted : (rows : List Fields) (sound : List HoursRow) (found : List Restriction) → AreRows how rows sound []
        → IsTranslation sound found → length (text_of (migrated found)) ≤ most_file_bytes
        → IsFile (text_of (migrated found)) (Ok found)
    rows_accepted rows sound found (inl p) t fits =
        let r = each_record 1 rows sound [] found refl p.1 t in
        let few = p.0 in
        let n = r.1 in
        accepted version.Two r.0 found (omega arith, r.2) fits
    rows_accepted rows sound found (inr p) t fits =
        let l = ap length p.whole ∙ length-append p.listed (fault.TooManyRows ∷ []) in
        absurd (omega arith)

    table_accepted : (text : List Fields) (sound : List HoursRow) (found : List Restriction) → AreTable how text sound []
        → IsTranslation sound found → length (text_of (migrated found)) ≤ most_file_bytes
        → IsFile (text_of (migrated found)) (Ok found)
    table_accepted text sound found (inl p) t fits = rows_accepted p.0 sound found p.2 t fits
    table_accepted text sound found (inr p) t fits = absurd (let l = ap length p.2 in omega arith)

    -- the text that is put is a record file of just these restrictions
    pub file_accepted : (bytes : List ℕ) (sound : List HoursRow) (found : List Restriction) → AreOfFile how bytes sound []
        → IsTranslation sound found → length (text_of (migrated found)) ≤ most_file_bytes
        → IsFile (text_of (migrated found)) (Ok found)
    file_accepted bytes sound found (inl p) t fits =
        table_accepted (records default_config (strip_bom bytes)) sound found p.1 t fits
    file_accepted bytes sound found (inr p) t fits = absurd (let l = ap length p.2 in omega arith)
