-- Each file has an answer.
use Rattle.std.proofs.Common.{◌≡◌, ◌∙◌, sym, ap, refl, ◌<◌, ◌≤◌, ◌+◌, ◌⊎◌, inl, inr, ℕ, List, [], ◌∷◌, ◌++◌, length, arith}
use Rattle.std.proofs.Common.{add-zero, append-nil, append_assoc, length-append, zero, suc}
use Rattle.std.specs.Prelude.{Option, Some, None, MatchOption, Result, Ok, Err}
use Rattle.std.proofs.lemmas.Bool.{cases_lt, cases_eq}
use Rattle.csv.specs.Reading.{default_config, records, strip_bom}
use Rattle.gtd_core.specs.Limits.{most_rows, most_file_bytes}
use Rattle.gtd_text.specs.Reading.{HasNoFault, IsFault, StandsFor}
use Rattle.gtd_records.specs.ComputedFile.{AreRecords, AreRows, IsFile, IsTable}
use Rattle.gtd_records.specs.File.{header}
use Rattle.gtd_records.specs.ComputedRow.{IsRow}
use Rattle.gtd_records.specs.facts.RowNames.{AllBut, Closed, Every, Fields, IsDomainColumn, IsOrdered, Only}
use Rattle.gtd_records.specs.facts.RowNames.{RecordFault, Restriction}
use Rattle.gtd_records.specs.facts.RowNames.{TextFault, Tree, Vehicles, Version, closed_of, number_of, vehicles_of, with_domain}
use Rattle.gtd_records.specs.declared.fault.RecordFault.TheVariants as fault
use Rattle.gtd_rows.specs.declared.vehicles.Version.TheVariants as version
use Rattle.gtd_rows.specs.facts.SortedCodes.{ascending}

types_of : (named : Vehicles) → (types : Vehicles) × IsOrdered named types
types_of Every = (Every, refl)
types_of (Only codes) = let a = ascending codes in (Only a.0, (a.0, a.1, refl))
types_of (AllBut codes) = let a = ascending codes in (AllBut a.0, (a.0, a.1, refl))

-- the rows stand for restrictions, or there is a first that does not, where the first row has this number
record FirstOf (v : Version) (k : ℕ) (rows : List Fields) : Type 0 where
  before : List Fields
  row : Fields
  after : List Fields
  split : rows ≡ before ++ row ∷ after
  found : List Restriction
  sound : AreRecords v k before found
  why : RecordFault
  fault : IsRow v (k + length before) row (Err why)

-- rows, with the one of this number, and those before and after it
record Split (n : ℕ) (rows : List Fields) : Type 0 where
  before : List Fields
  row : Fields
  after : List Fields
  split : rows ≡ before ++ row ∷ after
  count : length before ≡ n

split_at : (n : ℕ) (rows : List Fields) → n < length rows → Split n rows
split_at n [] lt = absurd (omega (arith, lt))
split_at zero (row ∷ rows) lt = record { before = []; row = row; after = rows; split = refl; count = refl }
split_at (suc n) (row ∷ rows) lt =
    let s = split_at n rows (omega (arith, lt)) in
    record {
      before = row ∷ s.before;
      row = s.row;
      after = s.after;
      split = ap (λ (l : List Fields). row ∷ l) s.split;
      count = (let e = s.count in omega (arith, e));
    }

-- ---- whether fields are a header

heads : {A : Type 0} (x y : A) (xs ys : List A) → x ∷ xs ≡ y ∷ ys → x ≡ y
heads x y xs ys e = cc

tails : {A : Type 0} (x y : A) (xs ys : List A) → x ∷ xs ≡ y ∷ ys → xs ≡ ys
tails x y xs ys e = cc

same_first : {A : Type 0} (x y : A) (xs ys : List A) → x ≡ y → (xs ≡ ys) ⊎ (xs ≡ ys → ⊥)
    → (x ∷ xs ≡ y ∷ ys) ⊎ (x ∷ xs ≡ y ∷ ys → ⊥)
same_first x y xs ys e (inl same) = inl cc
same_first x y xs ys e (inr other) = inr (λ f. other (tails x y xs ys f))

same_list : {A : Type 0} → ((x y : A) → (x ≡ y) ⊎ (x ≡ y → ⊥)) → (xs ys : List A) → (xs ≡ ys) ⊎ (xs ≡ ys → ⊥)
same_list same [] [] = inl refl
same_list same [] (y ∷ ys) = inr (λ e. cc)
same_list same (x ∷ xs) [] = inr (λ e. cc)
same_list same (x ∷ xs) (y ∷ ys) =
    elim (same x y) [
      | inl e ↦ same_first x y xs ys e (same_list same xs ys)
      | inr other ↦ inr (λ f. other (heads x y xs ys f))
    ]

same_fields : (a b : Fields) → (a ≡ b) ⊎ (a ≡ b → ⊥)
same_fields = same_list (same_list cases_eq)

neither : (first : Fields) → (first ≡ header version.One → ⊥) → (first ≡ header version.Two → ⊥) → (v : Version)
    → first ≡ header v → ⊥
neither first one two version.One e = one e
neither first one two version.Two e = two e

headed : (first : Fields) → ((v : Version) × (first ≡ header v)) ⊎ ((v : Version) → first ≡ header v → ⊥)
headed first =
    elim (same_fields first (header version.One)) [
      | inl e ↦ inl (version.One, e)
      | inr one ↦ elim (same_fields first (header version.Two)) [
        | inl e ↦ inl (version.Two, e)
        | inr two ↦ inr (neither first one two)
      ]
    ]

module _ (each_text : (text : List ℕ) → ((e : Tree) × StandsFor text e × HasNoFault text)
    ⊎ ((fault : TextFault) × IsFault text fault)) where
  column : (text : List ℕ) → (read : Result (Option Tree) TextFault) × IsDomainColumn text read
  column [] = (Ok None, refl)
  column (b ∷ text) = elim (each_text (b ∷ text)) [
    | inl e ↦ (Ok (Some e.0), (e.1, e.2))
    | inr bad ↦ (Err bad.0, bad.1)
  ]

  abbrev Row : Version → ℕ → Fields → Type 0
  Row v k row = (answer : Result Restriction RecordFault) × IsRow v k row answer

  by_types : (k x : ℕ) (c : Closed) (domain : List ℕ) (o : Option Vehicles)
      → (answer : Result Restriction RecordFault) × MatchOption o (answer ≡ Err (fault.Vehicle k)) (λ named.
      (types : Vehicles) × (read : Result (Option Tree) TextFault)
      × IsOrdered named types × IsDomainColumn domain read × (answer ≡ with_domain k x c types read))
  by_types k x c domain None = (Err (fault.Vehicle k), refl)
  by_types k x c domain (Some named) =
      let types = types_of named in
      let read = column domain in
      (with_domain k x c types.0 read.0, (types.0, read.0, types.1, read.1, refl))

  by_closed : (k x : ℕ) (domain : List ℕ) (named : Option Vehicles) (o : Option Closed)
      → (answer : Result Restriction RecordFault) × MatchOption o (answer ≡ Err (fault.Direction k)) (λ c.
      MatchOption named (answer ≡ Err (fault.Vehicle k)) (λ named.
      (types : Vehicles) × (read : Result (Option Tree) TextFault)
      × IsOrdered named types × IsDomainColumn domain read × (answer ≡ with_domain k x c types read)))
  by_closed k x domain named None = (Err (fault.Direction k), refl)
  by_closed k x domain named (Some c) = by_types k x c domain named

  by_number : (k : ℕ) (domain : List ℕ) (named : Option Vehicles) (closed : Option Closed) (o : Option ℕ)
      → (answer : Result Restriction RecordFault) × MatchOption o (answer ≡ Err (fault.Element k)) (λ x.
      MatchOption closed (answer ≡ Err (fault.Direction k)) (λ c.
      MatchOption named (answer ≡ Err (fault.Vehicle k)) (λ named.
      (types : Vehicles) × (read : Result (Option Tree) TextFault)
      × IsOrdered named types × IsDomainColumn domain read × (answer ≡ with_domain k x c types read))))
  by_number k domain named closed None = (Err (fault.Element k), refl)
  by_number k domain named closed (Some x) = by_closed k x domain named closed

  each_row : (v : Version) (k : ℕ) (row : Fields) → Row v k row
  each_row v k [] = (Err (fault.FieldCount k), refl)
  each_row v k (c ∷ []) = (Err (fault.FieldCount k), refl)
  each_row v k (c ∷ d ∷ []) = (Err (fault.FieldCount k), refl)
  each_row v k (c ∷ d ∷ e ∷ []) = (Err (fault.FieldCount k), refl)
  each_row v k (c ∷ d ∷ e ∷ f ∷ []) = by_number k f (vehicles_of v e) (closed_of d) (number_of c)
  each_row v k (c ∷ d ∷ e ∷ f ∷ g ∷ more) = (Err (fault.FieldCount k), refl)

  abbrev Records : Version → ℕ → List Fields → Type 0
  Records v k rows = ((found : List Restriction) × AreRecords v k rows found) ⊎ FirstOf v k rows

  after_sound : (v : Version) (k : ℕ) (row : Fields) (rows : List Fields) (r : Restriction) → IsRow v k row (Ok r)
      → Records v (k + 1) rows → Records v k (row ∷ rows)
  after_sound v k row rows r is (inl more) = inl (r ∷ more.0, (r, more.0, is, more.1, refl))
  after_sound v k row rows r is (inr f) =
      let n : k + 1 + length f.before ≡ k + length (row ∷ f.before) = omega arith in
      inr (record {
        before = row ∷ f.before;
        row = f.row;
        after = f.after;
        split = ap (λ (l : List Fields). row ∷ l) f.split;
        found = r ∷ f.found;
        sound = (r, f.found, is, f.sound, refl);
        why = f.why;
        fault = rw (← n) f.fault;
      })

  by_answer : (v : Version) (k : ℕ) (row : Fields) (rows : List Fields) (answer : Result Restriction RecordFault)
      → IsRow v k row answer → Records v (k + 1) rows → Records v k (row ∷ rows)
  by_answer v k row rows (Ok r) is more = after_sound v k row rows r is more
  by_answer v k row rows (Err why) is more = inr (record {
    before = [];
    row = row;
    after = rows;
    split = refl;
    found = [];
    sound = refl;
    why = why;
    fault = rw (add-zero k) is;
  })

  each_rows : (v : Version) (k : ℕ) (rows : List Fields) → Records v k rows
  each_rows v k [] = inl ([], refl)
  each_rows v k (row ∷ rows) =
      let a = each_row v k row in
      by_answer v k row rows a.0 a.1 (each_rows v (k + 1) rows)

  -- the first fault of some rows is that of all, if they come first
  at_first : (v : Version) (rows before more : List Fields) → rows ≡ before ++ more → (f : FirstOf v 1 before)
      → length f.before < most_rows → (answer : Result (List Restriction) RecordFault) × AreRows v rows answer
  at_first v rows before more split f few =
      let n : 1 + length f.before ≡ length f.before + 1 = omega arith in (
        Err f.why,
        record {
          before = f.before;
          row = f.row;
          after = f.after ++ more;
          split = split ∙ ap (λ (l : List Fields). l ++ more) f.split ∙ append_assoc f.before (f.row ∷ f.after) more;
          found = f.found;
          sound = (omega arith, f.sound);
          fault = inr (few, rw (← n) f.fault);
        },
      )

  -- at most as many rows as may be
  few_rows : (v : Version) (rows : List Fields) → length rows ≤ most_rows → Records v 1 rows
      → (answer : Result (List Restriction) RecordFault) × AreRows v rows answer
  few_rows v rows few (inl r) = (Ok r.0, (few, r.1))
  few_rows v rows few (inr f) =
      let all = ap length f.split ∙ length-append f.before (f.row ∷ f.after) in
      at_first v rows rows [] (sym (append-nil rows)) f (omega (arith, few, all))

  -- more of them: those that may be, and the next
  many_rows : (v : Version) (rows before : List Fields) (row : Fields) (after : List Fields) → rows ≡ before ++ row ∷ after
      → length before ≡ most_rows → Records v 1 before → (answer : Result (List Restriction) RecordFault) × AreRows v rows answer
  many_rows v rows before row after split many (inl r) = (
    Err fault.TooManyRows,
    record {
      before = before;
      row = row;
      after = after;
      split = split;
      found = r.0;
      sound = (omega (arith, many), r.1);
      fault = inl (many, refl);
    },
  )
  many_rows v rows before row after split many (inr f) =
      let all = ap length f.split ∙ length-append f.before (f.row ∷ f.after) in
      at_first v rows before (row ∷ after) split f (omega (arith, many, all))

  all_rows : (v : Version) (rows : List Fields) → (answer : Result (List Restriction) RecordFault) × AreRows v rows answer
  all_rows v rows =
      elim (cases_lt most_rows (length rows)) [
        | inl many ↦ (let s = split_at most_rows rows many in
            many_rows v rows s.before s.row s.after s.split s.count (each_rows v 1 s.before))
        | inr few ↦ few_rows v rows few (each_rows v 1 rows)
      ]

  under : (first : Fields) (rows : List Fields) → ((v : Version) × (first ≡ header v)) ⊎ ((v : Version) → first ≡ header v → ⊥)
      → (answer : Result (List Restriction) RecordFault) × IsTable (first ∷ rows) answer
  under first rows (inl is) =
      let a = all_rows is.0 rows in
      (a.0, inl (is.0, rows, ap (λ (f : Fields). f ∷ rows) is.1, a.1))
  under first rows (inr never) =
      (Err fault.Header, inr ((λ v others e. never v (heads first (header v) rows others e)), refl))

  each_table : (text : List Fields) → (answer : Result (List Restriction) RecordFault) × IsTable text answer
  each_table [] = (Err fault.Header, inr ((λ v rows e. cc), refl))
  each_table (first ∷ rows) = under first rows (headed first)

  pub each_file : (bytes : List ℕ) → (answer : Result (List Restriction) RecordFault) × IsFile bytes answer
  each_file bytes =
      elim (cases_lt most_file_bytes (length bytes)) [
        | inl many ↦ (Err fault.TooLarge, inr (many, refl))
        | inr few ↦ (let t = each_table (records default_config (strip_bom bytes)) in (t.0, inl (few, t.1)))
      ]
