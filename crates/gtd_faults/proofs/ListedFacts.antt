-- What is listed of all rows of a file, by what is listed of each.
use Rattle.std.proofs.Common.{◌≡◌, ◌∙◌, ◌<◌, ◌≤◌, ◌+◌, sym, ap, subst, refl, inl, inr, arith, ℕ, suc}
use Rattle.std.proofs.Common.{Bor, List, [], ◌∷◌, ◌++◌, append-nil, append_assoc, drop, length, length-append, map, take}
use Rattle.std.proofs.lemmas.List.{take_all}
use Rattle.std.proofs.Math.Seq.{drop-append_seam, take-append_seam}
use Rattle.std.specs.Prelude.{Option, Some, None, Result, Ok, Err, string_bytes}
use Rattle.csv.specs.Reading.{default_config, records, strip_bom}
use Rattle.csv.specs.Records.{fields_of}
use Rattle.gtd_core.specs.Limits.{most_file_bytes, most_rows}
use Rattle.gtd_records.specs.Closing.{Restriction}
use Rattle.gtd_rows.specs.Columns.{Fields}
use Rattle.gtd_records.specs.ComputedRow.{IsRow}
use Rattle.gtd_records.specs.Faults.{AreRowFaults, AreTableFaults, row_number, with_fault}
use Rattle.gtd_records.specs.File.{header}
use Rattle.gtd_rows.specs.Taking.{AreAllTaken, AreTableTaken}
use Rattle.gtd_records.specs.facts.RowFaults.{faults_listed, number_is}
use Rattle.gtd_rows.specs.facts.RowsRead.{IsListing, one_more}
use Rattle.gtd_records.specs.declared.fault.RecordFault.{RecordFault}
use Rattle.gtd_records.specs.declared.fault.RecordFault.TheVariants as fault
use Rattle.gtd_rows.specs.declared.rows.RowsEnd.{RowsEnd}
use Rattle.gtd_rows.specs.declared.rows.RowsEnd.TheVariants.{NoHeader, All, Stopped, TooMany}
use Rattle.gtd_rows.specs.declared.vehicles.Version.{Version}
use Rattle.gtd_mistakes.specs.declared.told.Told.{Told}
use Rattle.gtd_warnings.specs.Codes.{AreLoneOfFile, codes_named}
use Rattle.gtd_warnings.specs.RowsTold.{AreToldOfRows, IsToldOfRow}
use Rattle.gtd_warnings.specs.declared.codes.LoneCode.{LoneCode}
use Rattle.gtd_warnings.specs.declared.file.Asked.{Asked}
use Rattle.gtd_lines.specs.Cut.{IsPlace}
use Rattle.gtd_faults.specs.ListedRows.{AreDoubtedIfAsked, AreDoubtsIfAsked, AreFaulted, AreListed}
use Rattle.gtd_faults.specs.ListedRows.{AreLoneUnlessOff, BeginsListing, HasEnded, HasOneMore, TakesRow}
use Rattle.gtd_faults.specs.Listing.{AreLines, IsList, IsWarned, row_of}
use Rattle.gtd_faults.specs.Standing.{IsRowOf}
use Rattle.gtd_faults.specs.declared.doubts.DoubtLines.{DoubtLines}
use Rattle.gtd_faults.specs.declared.lines.FaultLines.{FaultLines}
use Rattle.gtd_faults.specs.declared.listing.Listing.{Listing}
use Rattle.gtd_faults.specs.declared.row.Row.{Row}

-- ---- a row

-- the row with this number, after the header and those before it
row_given : (first row : Fields) (before after : List Fields) (number : ℕ) → number ≡ length before + 1
    → drop number (first ∷ (before ++ row ∷ after)) ≡ row ∷ after
row_given first row before after number e =
    let n : number ≡ suc (length before) = omega (arith, e) in
    rw n (drop-append_seam before (row ∷ after))

pub row_of_file : (bytes : List ℕ) (row : Row) (v : Version) (before after : List Fields)
    → records default_config (strip_bom bytes) ≡ header v ∷ (before ++ fields_of row.fields.now ∷ after)
    → row.bytes.now ≡ bytes → row.number ≡ length before + 1 → IsPlace bytes row.number row.place → IsRowOf bytes row
row_of_file bytes row v before after text of_file number place = record {
  text = of_file;
  rest = after;
  given = rw text (row_given (header v) (fields_of row.fields.now) before after row.number number);
  place = place;
}

-- a fault that has the number of a row is of that row
of_row : (why : RecordFault) (number : ℕ) → row_number why ≡ number → 0 < number → row_of why ≡ Some number
of_row (fault.FieldCount row) number e some = ap Some e
of_row (fault.Element row) number e some = ap Some e
of_row (fault.Direction row) number e some = ap Some e
of_row (fault.Vehicle row) number e some = ap Some e
of_row (fault.Domain row why) number e some = ap Some e
of_row fault.ReadFault number e some = absurd (omega (arith, e, some))
of_row fault.TooLarge number e some = absurd (omega (arith, e, some))
of_row fault.Header number e some = absurd (omega (arith, e, some))
of_row fault.TooManyRows number e some = absurd (omega (arith, e, some))
of_row fault.NoMemory number e some = absurd (omega (arith, e, some))
of_row fault.Endless number e some = absurd (omega (arith, e, some))

pub fault_of_row : (v : Version) (number before : ℕ) (row : Fields) (why : RecordFault) → number ≡ before + 1
    → IsRow v number row (Err why) → row_of why ≡ Some number
fault_of_row v number before row why e is = of_row why number (number_is v number row why is) (omega (arith, e))

-- ---- one row more

module _ (path bytes : List ℕ) (v : Version) (before : List Fields) (row : Fields) (number : ℕ) (e : number ≡ length before + 1)
    (old : FaultLines) (are : AreFaulted path bytes v before old) where
  here : (a : Result Restriction RecordFault) → IsRow v number row a
      → AreRowFaults v 1 (before ++ row ∷ []) (old.faults.items ++ with_fault a [])
  here a is =
      let n : number ≡ 1 + length before = omega (arith, e) in
      one_more with_fault (IsRow v) (AreRowFaults v) (faults_listed v) 1 before old.faults.items row a are.each
      (subst (λ (k : ℕ). IsRow v k row a) n is)

  -- it stands for a restriction
  pub sound_row : (r : Restriction) → IsRow v number row (Ok r) → AreFaulted path bytes v (before ++ row ∷ []) old
  sound_row r is = record {
    of_file = are.of_file;
    each = subst (AreRowFaults v 1 (before ++ row ∷ [])) (append-nil old.faults.items) (here (Ok r) is);
    text = are.text;
  }

  -- it has a fault
  pub faulty_row : (why : RecordFault) (new : FaultLines) → IsRow v number row (Err why) → HasOneMore bytes why old new
      → AreFaulted path bytes v (before ++ row ∷ []) new
  faulty_row why new is more = record {
    of_file = ap (λ (p : Bor (List ℕ)). p.now) more.path ∙ are.of_file;
    each = subst (AreRowFaults v 1 (before ++ row ∷ [])) (sym more.faults) (here (Err why) is);
    text =
        subst (λ (p : List ℕ). AreLines p bytes new.faults.items (string_bytes new.text)) are.of_file
        (more.lines
        (subst (λ (p : List ℕ). AreLines p bytes old.faults.items (string_bytes old.text)) (sym are.of_file) are.text));
  }

told_listed : (asked : Asked) → IsListing (λ (first rest : List Told). first ++ rest) (IsToldOfRow asked) (AreToldOfRows asked)
told_listed asked = record {
  joins = λ first rest more. append_assoc first rest more;
  none = λ k l. ((λ e. e), (λ e. e));
  more = λ k r rs l. ((λ a. a), (λ a. a));
}

-- what is told of one row more
pub told_more : (asked : Asked) (before : List Fields) (row : Fields) (number : ℕ) (told more : List Told)
    → number ≡ length before + 1 → AreToldOfRows asked 1 before told → IsToldOfRow asked number row more
    → AreToldOfRows asked 1 (before ++ row ∷ []) (told ++ more)
told_more asked before row number told more e are is =
    let n : number ≡ 1 + length before = omega (arith, e) in
    subst (λ (l : List Told). AreToldOfRows asked 1 (before ++ row ∷ []) (told ++ l)) (append-nil more)
    (one_more (λ (first rest : List Told). first ++ rest) (IsToldOfRow asked) (AreToldOfRows asked) (told_listed asked) 1 before
    told row more are (subst (λ (k : ℕ). IsToldOfRow asked k row more) n is))

-- where warnings are not asked for, none are kept
pub still_none : (path bytes : List ℕ) (asked : Option Asked) (v : Version) (rows more : List Fields) (doubts : Option DoubtLines)
    → doubts ≡ None → AreDoubtedIfAsked path asked bytes v rows doubts → AreDoubtedIfAsked path asked bytes v more doubts
still_none path bytes None v rows more None e are = are
still_none path bytes (Some asked) v rows more None e are = are
still_none path bytes asked v rows more (Some lines) e are = absurd cc

-- ---- all rows

module _ (path bytes : List ℕ) (asked : Option Asked) (v : Version) (all : List Fields)
    (text : records default_config (strip_bom bytes) ≡ header v ∷ all) where
  pub rows_taken : (before rows after : List Fields) (old new : Listing) → all ≡ before ++ (rows ++ after)
      → old.rows.version ≡ v → AreListed path asked bytes v before old
      → AreAllTaken TakesRow (length before + 1) rows old new → AreListed path asked bytes v (before ++ rows) new
  rows_taken before [] after old new split version are e =
      subst (λ (l : List Fields). AreListed path asked bytes v l new) (sym (append-nil before))
      (subst (AreListed path asked bytes v before) (sym e) are)
  rows_taken before (row ∷ rows) after old new split version are taken =
      let next = taken.0 in
      let step = taken.1 in
      let here = text ∙ ap (λ (l : List Fields). header v ∷ l) split in
      let listed = step.1 path bytes asked before (rows ++ after)
      (subst (λ (w : Version). records default_config (strip_bom bytes) ≡ header w ∷ (before ++ row ∷ (rows ++ after)))
      (sym version) here)
      refl (subst (λ (w : Version). AreListed path asked bytes w before old) (sym version) are) in
      let count : length before + 1 + 1 ≡ length (before ++ row ∷ []) + 1 =
      (let l = length-append before (row ∷ []) in omega (arith, l)) in
      subst (λ (l : List Fields). AreListed path asked bytes v l new) (append_assoc before (row ∷ []) rows)
      (rows_taken (before ++ row ∷ []) rows after next new
      (split ∙ sym (append_assoc before (row ∷ []) (rows ++ after))) (step.0 ∙ version)
      (subst (λ (w : Version). AreListed path asked bytes w (before ++ row ∷ []) next) version listed)
      (subst (λ (k : ℕ). AreAllTaken TakesRow k rows next new) count taken.2))

-- ---- the list of a file

-- the warnings of the rows that count are those of the file
module _ (path bytes : List ℕ) (few : length bytes ≤ most_file_bytes) (v : Version) (all rows : List Fields)
    (text : records default_config (strip_bom bytes) ≡ header v ∷ all) (cut : take most_rows all ≡ rows) where
  lone_of_file : (asked : Asked) (lone : List LoneCode) → AreLoneUnlessOff asked (map (codes_named v) rows) lone
      → AreLoneOfFile asked bytes lone
  lone_of_file asked lone (inl is) = inl (is.0, few, inl (v, all, text, rw cut (is.1)))
  lone_of_file asked lone (inr is) = inr (inl is.0, is.1)

  pub doubts_of_file : (asked : Option Asked) (last : List ℕ) → AreDoubtsIfAsked path asked bytes v rows last
      → IsWarned asked path bytes last
  doubts_of_file None last is = is
  doubts_of_file (Some asked) last is = record {
    told = is.told;
    all_told = inl (few, inl (v, all, text, rw cut (is.each)));
    first = is.first;
    told_lines = is.told_lines;
    lone = is.lone;
    all_lone = lone_of_file asked is.lone is.all_lone;
    last = is.last;
    lone_lines = is.lone_lines;
    whole = is.whole;
  }

-- of a file without a header there are none
module _ (path bytes : List ℕ) (few : length bytes ≤ most_file_bytes)
    (none : (v : Version) (rows : List Fields) → records default_config (strip_bom bytes) ≡ header v ∷ rows → ⊥)
    (v : Version) where
  no_lone : (asked : Asked) (lone : List LoneCode) → AreLoneUnlessOff asked [] lone → AreLoneOfFile asked bytes lone
  no_lone asked lone (inl (on, inl many)) = absurd (let n = many.0 in omega (arith, n))
  no_lone asked lone (inl (on, inr few_rows)) = inl (on, few, inr (none, few_rows.1))
  no_lone asked lone (inr is) = inr (inl is.0, is.1)

  pub doubts_without_header : (asked : Option Asked) (last : List ℕ) → AreDoubtsIfAsked path asked bytes v [] last
      → IsWarned asked path bytes last
  doubts_without_header None last is = is
  doubts_without_header (Some asked) last is = record {
    told = is.told;
    all_told = inl (few, inr (none, is.each));
    first = is.first;
    told_lines = is.told_lines;
    lone = is.lone;
    all_lone = no_lone asked is.lone is.all_lone;
    last = is.last;
    lone_lines = is.lone_lines;
    whole = is.whole;
  }

abbrev Ends : List ℕ → Option Asked → List ℕ → Option DoubtLines → List ℕ → List ℕ → Type 0
Ends path asked bytes doubts old final = (v : Version) (rows : List Fields) → AreDoubtedIfAsked path asked bytes v rows doubts
    → (last : List ℕ) × AreDoubtsIfAsked path asked bytes v rows last × (final ≡ old ++ last)

module _ (path bytes : List ℕ) (few : length bytes ≤ most_file_bytes) (asked : Option Asked) (old new : Listing)
    (nothing : (v : Version) → AreListed path asked bytes v [] old) (lines : FaultLines) (final : List ℕ)
    (ends : Ends path asked bytes new.doubts (string_bytes lines.text) final) where
  abbrev file : List Fields
  file = records default_config (strip_bom bytes)

  more_lines : (why : RecordFault) (v : Version) (rows : List Fields) → AreFaulted path bytes v rows new.faults
      → HasOneMore bytes why new.faults lines → AreLines path bytes lines.faults.items (string_bytes lines.text)
  more_lines why v rows are more =
      subst (λ (p : List ℕ). AreLines p bytes lines.faults.items (string_bytes lines.text)) are.of_file
      (more.lines (subst (λ (p : List ℕ). AreLines p bytes new.faults.faults.items (string_bytes new.faults.text))
      (sym are.of_file) are.text))

  without_header : ((v : Version) (rows : List Fields) → file ≡ header v ∷ rows → ⊥) → (v : Version)
      → AreListed path asked bytes v [] new → HasOneMore bytes fault.Header new.faults lines
      → IsList path bytes asked (length lines.faults.items) final
  without_header none v are more =
      let end = ends v [] are.doubted in
      let faults : lines.faults.items ≡ fault.Header ∷ [] =
      more.faults ∙ ap (λ (l : List RecordFault). l ++ fault.Header ∷ []) are.faulted.each in
      record {
        faults = lines.faults.items;
        all = inl (few, inr (none, faults));
        counted = refl;
        first = string_bytes lines.text;
        lines = more_lines fault.Header v [] are.faulted more;
        last = end.0;
        warned = doubts_without_header path bytes few none v asked end.0 end.1;
        whole = end.2;
      }

  with_rows : (v : Version) (all rows : List Fields) → file ≡ header v ∷ all → take most_rows all ≡ rows
      → AreListed path asked bytes v rows new → AreTableFaults file lines.faults.items
      → AreLines path bytes lines.faults.items (string_bytes lines.text)
      → IsList path bytes asked (length lines.faults.items) final
  with_rows v all rows text cut are faults listed =
      let end = ends v rows are.doubted in
      record {
        faults = lines.faults.items;
        all = inl (few, faults);
        counted = refl;
        first = string_bytes lines.text;
        lines = listed;
        last = end.0;
        warned = doubts_of_file path bytes few v all rows text cut asked end.0 end.1;
        whole = end.2;
      }

  pub whole_list : (end : RowsEnd) → AreTableTaken BeginsListing TakesRow file old new end
      → HasEnded bytes new.place new.reached end new.faults lines → IsList path bytes asked (length lines.faults.items) final
  whole_list NoHeader (inl (nil, same)) more =
      let v = old.rows.version in
      without_header (λ w rows e. cc) v (subst (AreListed path asked bytes v []) (sym same) (nothing v)) more
  whole_list NoHeader (inr (first, rows, split, begins)) more =
      let v = new.rows.version in
      without_header (λ w others e. begins.0 w (let same : first ≡ header w = cc in same)) v
      (begins.1 path bytes asked v (nothing v)) more
  whole_list Stopped h more = absurd (h.taken.stops)
  whole_list All h more =
      let v = h.at.rows.version in
      let text : file ≡ header v ∷ h.rows = h.split ∙ ap (λ (f : Fields). f ∷ h.rows) h.begun.0 in
      let are = rows_taken path bytes asked v h.rows text [] h.rows [] h.at new (sym (append-nil h.rows)) refl
      (h.begun.1 path bytes asked v (nothing v)) h.taken.1 in
      with_rows v h.rows h.rows text (take_all most_rows h.rows h.taken.0) are
      (rw more (inl (v, h.rows, text, inl (h.taken.0, are.faulted.each))))
      (rw more (are.faulted.text))
  whole_list TooMany h more =
      let v = h.at.rows.version in
      let m = h.taken in
      let text : file ≡ header v ∷ h.rows = h.split ∙ ap (λ (f : Fields). f ∷ h.rows) h.begun.0 in
      let are = rows_taken path bytes asked v h.rows text [] m.before (m.row ∷ m.after) h.at new m.split refl
      (h.begun.1 path bytes asked v (nothing v)) m.taken in
      let last = more (omega (arith, are.reached, m.many)) are.place in
      let cut : take most_rows h.rows ≡ m.before =
      ap (λ (l : List Fields). take most_rows l) m.split ∙ ap (λ (n : ℕ). take n (m.before ++ m.row ∷ m.after)) (sym m.many)
      ∙ take-append_seam m.before (m.row ∷ m.after) in
      with_rows v h.rows m.before text cut are
      (inl (
        v,
        h.rows,
        text,
        inr (record {
          before = m.before;
          row = m.row;
          after = m.after;
          split = m.split;
          many = m.many;
          listed = new.faults.faults.items;
          each = are.faulted.each;
          whole = last.faults;
        }),
      ))
      (more_lines fault.TooManyRows v m.before are.faulted last)
