-- Each file of hours has an answer.
use Rattle.std.proofs.Common.{◌≡◌, ap, refl, sym, subst, ◌<◌, ◌≤◌, ◌+◌, inl, inr, ℕ, zero, suc, List, [], ◌∷◌, ◌++◌}
use Rattle.std.proofs.Common.{length, arith}
use Rattle.std.specs.Prelude.{Option, Some, None, MatchOption, Result, Ok, Err}
use Rattle.std.specs.Vec.{with_items}
use Rattle.std.proofs.lemmas.Bool.{cases_eq, cases_lt}
use Rattle.std.proofs.lemmas.List.{with_items_is}
use Rattle.csv.specs.Reading.{default_config, records, strip_bom}
use Rattle.gtd_core.specs.Limits.{most_basic_domains, most_file_bytes, most_rows}
use Rattle.gtd_core.specs.facts.Deciding.{Decided}
use Rattle.gtd_hours.specs.Cost.{counted, hours_cost}
use Rattle.gtd_hours_known.specs.declared.known.KnownHours.{KnownHours}
use Rattle.gtd_hours_text.specs.Room.{HasVectors}
use Rattle.gtd_rows.specs.Columns.{Fields, IsOrdered, closed_of, number_of, vehicles_of}
use Rattle.gtd_rows.specs.declared.direction.Closed.{Closed}
use Rattle.gtd_rows.specs.declared.vehicles.Vehicles.{Vehicles}
use Rattle.gtd_rows.specs.declared.vehicles.Vehicles.TheVariants.{Every, Only, AllBut}
use Rattle.gtd_rows.specs.declared.vehicles.Version.TheVariants as version
use Rattle.gtd_rows.specs.facts.SortedCodes.{ascending}
use Rattle.gtd_hours_options.specs.Readings.{HowRead, Reads}
use Rattle.gtd_hours_file.specs.HoursFile.{AreEach, AreOfFile, AreRows, AreTable, IsHoursColumn, IsHoursFault}
use Rattle.gtd_hours_file.specs.HoursFile.{IsHoursFile, IsHoursOf, IsRow, faults_of, header, sound_of}
use Rattle.gtd_hours_file.specs.HoursFile.{with_hours}
use Rattle.gtd_hours_file.specs.SameAnswers.{IsEachRead}
use Rattle.gtd_hours_file.specs.declared.fault.HoursFileFault.{HoursFileFault}
use Rattle.gtd_hours_file.specs.declared.fault.HoursFileFault.TheVariants as fault
use Rattle.gtd_hours_file.specs.declared.row.HoursRow.{HoursRow}
use Rattle.gtd_hours_file.specs.declared.row.RowHours.{RowHours}
use Rattle.gtd_hours_file.proofs.ShortFields.{AreShort, AreShortRows, all_short, rows_before}

types_of : (named : Vehicles) → (types : Vehicles) × IsOrdered named types
types_of Every = (Every, refl)
types_of (Only codes) = let a = ascending codes in (Only a.0, (a.0, a.1, refl))
types_of (AllBut codes) = let a = ascending codes in (AllBut a.0, (a.0, a.1, refl))

-- ---- whether fields are the header

tails : {A : Type 0} (x y : A) (xs ys : List A) → x ∷ xs ≡ y ∷ ys → xs ≡ ys
tails x y xs ys e = cc

heads : {A : Type 0} (x y : A) (xs ys : List A) → x ∷ xs ≡ y ∷ ys → x ≡ y
heads x y xs ys e = cc

same_both : {A : Type 0} (x y : A) (xs ys : List A) → Decided (x ≡ y) → Decided (xs ≡ ys) → Decided (x ∷ xs ≡ y ∷ ys)
same_both x y xs ys (inl e) (inl f) = inl cc
same_both x y xs ys (inl e) (inr other) = inr (λ f. other (tails x y xs ys f))
same_both x y xs ys (inr other) f = inr (λ e. other (heads x y xs ys e))

same_list : {A : Type 0} → ((x y : A) → Decided (x ≡ y)) → (xs ys : List A) → Decided (xs ≡ ys)
same_list same [] [] = inl refl
same_list same [] (y ∷ ys) = inr (λ e. cc)
same_list same (x ∷ xs) [] = inr (λ e. cc)
same_list same (x ∷ xs) (y ∷ ys) = same_both x y xs ys (same x y) (same_list same xs ys)

-- ---- the first rows

record Split (n : ℕ) (rows : List Fields) : Type 0 where
  before : List Fields
  row : Fields
  after : List Fields
  split : rows ≡ before ++ row ∷ after
  count : length before ≡ n

split_at : (n : ℕ) (rows : List Fields) → n < length rows → Split n rows
split_at n [] lt = absurd (omega (arith, lt))
split_at zero (row ∷ rows) lt = record { before = []; row = row; after = rows; split = refl; count = refl }
split_at (suc n) (row ∷ rows) lt =
    let s = split_at n rows (omega (arith, lt)) in
    record {
      before = row ∷ s.before;
      row = s.row;
      after = s.after;
      split = ap (λ (l : List Fields). row ∷ l) s.split;
      count = (let e = s.count in omega (arith, e));
    }

-- the sound rows and the faults that are so
record Says (Are : List HoursRow → List HoursFileFault → Type 0) : Type 0 where
  sound : List HoursRow
  faults : List HoursFileFault
  are : Are sound faults

module _ (how : HowRead) (texts : HasVectors ℕ most_file_bytes) (each_text : IsEachRead how most_file_bytes) where
  -- ---- a row

  abbrev Column : ℕ → List ℕ → Type 0
  Column row text = (read : Result (Option RowHours) HoursFileFault) × IsHoursColumn how row text read

  -- the text and its hours are kept
  kept : (text : List ℕ) → length text ≤ most_file_bytes → (read : KnownHours) → Reads how text read
      → hours_cost read.hours ≤ most_basic_domains → (given : RowHours) × IsHoursOf how text given
  kept text le read is few =
      let v = texts (length text) le in (
        record {
          text = with_items v.0 text;
          read = read;
          years = how.options.known.years;
        },
        record {
          kept = with_items_is v.0 text (sym v.1);
          reads = is;
          years = refl;
          few = few;
        },
      )

  by_cost : (row b : ℕ) (text : List ℕ) → length (b ∷ text) ≤ most_file_bytes → (read : KnownHours) → Reads how (b ∷ text) read
      → Column row (b ∷ text)
  by_cost row b text le read is = elim (cases_lt most_basic_domains (hours_cost read.hours)) [
    | inl many ↦ (Err (fault.TooMany row (counted (hours_cost read.hours))), IsHoursFault.of_many read is many refl)
    | inr few ↦ let k = kept (b ∷ text) le read is few in (Ok (Some k.0), k.1)
  ]

  column : (row : ℕ) (text : List ℕ) → length text ≤ most_file_bytes → Column row text
  column row [] le = (Ok None, refl)
  column row (b ∷ text) le = elim (each_text (b ∷ text) le) [
    | inl read ↦ by_cost row b text le read.0 read.1
    | inr bad ↦ (Err (fault.Hours row bad.0), IsHoursFault.of_first bad.0 bad.1 refl)
  ]

  abbrev IsRead : ℕ → ℕ → Closed → List ℕ → Vehicles → Result HoursRow HoursFileFault → Type 0
  IsRead row x c hours named answer =
      (types : Vehicles) × (read : Result (Option RowHours) HoursFileFault)
      × IsOrdered named types × IsHoursColumn how row hours read × (answer ≡ with_hours x c types read)

  by_types : (row x : ℕ) (c : Closed) (hours : List ℕ) → length hours ≤ most_file_bytes → (named : Option Vehicles)
      → (answer : Result HoursRow HoursFileFault)
      × MatchOption named (answer ≡ Err (fault.Vehicle row)) (λ v. IsRead row x c hours v answer)
  by_types row x c hours le None = (Err (fault.Vehicle row), refl)
  by_types row x c hours le (Some named) =
      let types = types_of named in
      let read = column row hours le in
      (with_hours x c types.0 read.0, (types.0, read.0, types.1, read.1, refl))

  by_closed : (row x : ℕ) (hours : List ℕ) → length hours ≤ most_file_bytes → (named : Option Vehicles) (closed : Option Closed)
      → (answer : Result HoursRow HoursFileFault) × MatchOption closed (answer ≡ Err (fault.Direction row)) (λ c.
      MatchOption named (answer ≡ Err (fault.Vehicle row)) (λ v. IsRead row x c hours v answer))
  by_closed row x hours le named None = (Err (fault.Direction row), refl)
  by_closed row x hours le named (Some c) = by_types row x c hours le named

  by_number : (row : ℕ) (hours : List ℕ) → length hours ≤ most_file_bytes → (named : Option Vehicles) (closed : Option Closed)
      (number : Option ℕ)
      → (answer : Result HoursRow HoursFileFault) × MatchOption number (answer ≡ Err (fault.Element row)) (λ x.
      MatchOption closed (answer ≡ Err (fault.Direction row)) (λ c.
      MatchOption named (answer ≡ Err (fault.Vehicle row)) (λ v. IsRead row x c hours v answer)))
  by_number row hours le named closed None = (Err (fault.Element row), refl)
  by_number row hours le named closed (Some x) = by_closed row x hours le named closed

  each_row : (row : ℕ) (fields : Fields) → AreShort most_file_bytes fields
      → (answer : Result HoursRow HoursFileFault) × IsRow how row fields answer
  each_row row [] short = (Err (fault.FieldCount row), refl)
  each_row row (c ∷ []) short = (Err (fault.FieldCount row), refl)
  each_row row (c ∷ d ∷ []) short = (Err (fault.FieldCount row), refl)
  each_row row (c ∷ d ∷ e ∷ []) short = (Err (fault.FieldCount row), refl)
  each_row row (c ∷ d ∷ e ∷ f ∷ []) short =
      by_number row f short.1.1.1.0 (vehicles_of version.Two e) (closed_of d) (number_of c)
  each_row row (c ∷ d ∷ e ∷ f ∷ g ∷ more) short = (Err (fault.FieldCount row), refl)

  -- ---- a file

  each_rows : (number : ℕ) (rows : List Fields) → AreShortRows most_file_bytes rows → Says (AreEach how number rows)
  each_rows number [] short = record { sound = []; faults = []; are = (refl, refl) }
  each_rows number (row ∷ rows) short =
      let first = each_row number row short.0 in
      let more = each_rows (number + 1) rows short.1 in
      record {
        sound = sound_of first.0 ++ more.sound;
        faults = faults_of first.0 ++ more.faults;
        are = (first.0, more.sound, more.faults, first.1, more.are, refl, refl);
      }

  too_many : (rows : List Fields) → AreShortRows most_file_bytes rows → Split most_rows rows → Says (AreRows how rows)
  too_many rows short s =
      let each = each_rows 1 s.before (rows_before most_file_bytes s.before (s.row ∷ s.after)
      (subst (AreShortRows most_file_bytes) s.split short)) in
      record {
        sound = each.sound;
        faults = each.faults ++ (fault.TooManyRows ∷ []);
        are = inr (record {
          before = s.before;
          row = s.row;
          after = s.after;
          split = s.split;
          many = s.count;
          listed = each.faults;
          each = each.are;
          whole = refl;
        });
      }

  all_rows : (rows : List Fields) → AreShortRows most_file_bytes rows → Says (AreRows how rows)
  all_rows rows short = elim (cases_lt most_rows (length rows)) [
    | inl many ↦ too_many rows short (split_at most_rows rows many)
    | inr few ↦
        let each = each_rows 1 rows short in
        record { sound = each.sound; faults = each.faults; are = inl (few, each.are) }
  ]

  under : (first : Fields) (rows : List Fields) → AreShortRows most_file_bytes rows → Decided (first ≡ header)
      → Says (AreTable how (first ∷ rows))
  under first rows short (inl is) =
      let all = all_rows rows short in
      record { sound = all.sound; faults = all.faults; are = inl (rows, ap (λ (f : Fields). f ∷ rows) is, all.are) }
  under first rows short (inr never) = record {
    sound = [];
    faults = fault.Header ∷ [];
    are = inr ((λ others e. never (heads first header rows others e)), refl, refl);
  }

  each_table : (text : List Fields) → AreShortRows most_file_bytes text → Says (AreTable how text)
  each_table [] short =
      record { sound = []; faults = fault.Header ∷ []; are = inr ((λ others e. absurd cc), refl, refl) }
  each_table (first ∷ rows) short = under first rows short.1 (same_list (same_list cases_eq) first header)

  each_bytes : (bytes : List ℕ) → Says (AreOfFile how bytes)
  each_bytes bytes = elim (cases_lt most_file_bytes (length bytes)) [
    | inl many ↦ record { sound = []; faults = fault.TooLarge ∷ []; are = inr (many, refl, refl) }
    | inr few ↦
        let t = each_table (records default_config (strip_bom bytes)) (all_short most_file_bytes bytes few) in
        record { sound = t.sound; faults = t.faults; are = inl (few, t.are) }
  ]

  by_faults : (bytes : List ℕ) (sound : List HoursRow) (faults : List HoursFileFault) → AreOfFile how bytes sound faults
      → (answer : Result (List HoursRow) (List HoursFileFault)) × IsHoursFile how bytes answer
  by_faults bytes sound [] are = (Ok sound, are)
  by_faults bytes sound (why ∷ faults) are = (Err (why ∷ faults), (sound, are, λ e. cc))

  pub each_file : (bytes : List ℕ)
      → (answer : Result (List HoursRow) (List HoursFileFault)) × IsHoursFile how bytes answer
  each_file bytes = let s = each_bytes bytes in by_faults bytes s.sound s.faults s.are
