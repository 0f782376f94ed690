-- An accepted file may be cut after any line end, and accepted parts that end with a line end make a file.
use Rattle.std.proofs.Common.{◌≡◌, ◌∙◌, sym, ap, refl, subst, arith, ◌≤◌, ◌+◌, inl, inr, ℕ, true, false, List, [], ◌∷◌, ◌++◌}
use Rattle.std.proofs.Common.{length, length-append, append_assoc}
use Rattle.std.specs.Prelude.{Result, Ok, Err}
use Rattle.std.proofs.lemmas.Bool.{cases_Bool}
use Rattle.std.proofs.lemmas.Bool.Decides.{nat_tests}
use Rattle.csv.specs.Reading.{default_config, is_bom, records, strip_bom}
use Rattle.csv.specs.declared.parser.State.TheVariants as st
use Rattle.gtd_core.specs.Limits.{most_file_bytes, most_rows}
use Rattle.gtd_records.proofs.CutBytes.{cut_records}
use Rattle.gtd_records.proofs.CutFacts.{cut, joined, sound_of}
use Rattle.gtd_records.proofs.CutFaults.{second_part}
use Rattle.gtd_records.proofs.CutFile.{file_under, table_of, table_under}
use Rattle.gtd_records.proofs.LineEnds.{has_ends, line_end_between, neither, some_ends}
use Rattle.gtd_records.proofs.PlainRows.{table_clear}
use Rattle.gtd_records.specs.Closing.{Restriction}
use Rattle.gtd_rows.specs.Columns.{Fields}
use Rattle.gtd_records.specs.Cut.{IsFront, counted_on, is_line_end, state_after}
use Rattle.gtd_records.specs.ComputedFile.{AreRecords, IsFile, IsTable}
use Rattle.gtd_records.specs.File.{header}
use Rattle.gtd_rows.specs.Table.{IsBetween}
use Rattle.gtd_records.specs.declared.fault.RecordFault.{RecordFault}
use Rattle.gtd_rows.specs.declared.vehicles.Version.{Version}

-- ---- a line end is no byte of a mark

first_mark : (a b c : ℕ) → is_line_end a ≡ true → is_bom a b c ≡ false
first_mark a b c h = grind (arith, nat_tests)

second_mark : (a b c : ℕ) → is_line_end b ≡ true → is_bom a b c ≡ false
second_mark a b c h = grind (arith, nat_tests)

third_mark : (a b c : ℕ) → is_line_end c ≡ true → is_bom a b c ≡ false
third_mark a b c h = grind (arith, nat_tests)

module _ (byte : ℕ) (ends : is_line_end byte ≡ true) where
  no_front : (rest : List ℕ) → strip_bom (byte ∷ rest) ≡ byte ∷ rest
  unfolding strip_bom
  no_front [] = refl
  no_front (b ∷ []) = refl
  no_front (b ∷ c ∷ rest) = rw (first_mark byte b c ends) refl

  one_front : (a : ℕ) (rest : List ℕ) → strip_bom (a ∷ byte ∷ rest) ≡ a ∷ byte ∷ rest
  unfolding strip_bom
  one_front a [] = refl
  one_front a (c ∷ rest) = rw (second_mark a byte c ends) refl

  -- what is left of the bytes before a line end, if a mark is skipped
  stripped : (front : List ℕ) → (left : List ℕ) × ((rest : List ℕ) → strip_bom (front ++ byte ∷ rest) ≡ left ++ byte ∷ rest)
  unfolding strip_bom
  stripped [] = ([], no_front)
  stripped (a ∷ []) = (a ∷ [], one_front a)
  stripped (a ∷ b ∷ []) = (a ∷ b ∷ [], λ rest. rw (third_mark a b byte ends) refl)
  stripped (a ∷ b ∷ c ∷ more) =
      elim (cases_Bool (is_bom a b c)) [
        | inl e ↦ (more, λ rest. rw e refl)
        | inr e ↦ (a ∷ b ∷ c ∷ more, λ rest. rw e refl)
      ]

  -- each line end of an accepted file lies between two records
  pub between : (front rest : List ℕ) (found : List Restriction) → IsFile (front ++ byte ∷ rest) (Ok found)
      → IsBetween (state_after st.StartRecord (strip_bom (front ++ byte ∷ [])))
  between front rest found (inl p) =
      let left = stripped front in
      let clear = table_clear (records default_config (strip_bom (front ++ byte ∷ rest))) found p.1 in
      subst (λ (l : List ℕ). IsBetween (state_after st.StartRecord l)) (sym (left.1 []))
      (line_end_between left.0 byte rest ends
      (subst (λ (l : List ℕ). some_ends (records default_config l) ≡ false) (left.1 rest) clear))
  between front rest found (inr p) = absurd (cc (p.1))

  -- the same of the bytes after a header
  between_rows : (v : Version) (one two : List ℕ) (found : List Restriction)
      → IsTable (header v ∷ records default_config (one ++ byte ∷ two)) (Ok found)
      → IsBetween (state_after st.StartRecord (one ++ byte ∷ []))
  between_rows v one two found is =
      line_end_between one byte two ends
      (neither (has_ends (header v)) (some_ends (records default_config (one ++ byte ∷ two)))
      (table_clear (header v ∷ records default_config (one ++ byte ∷ two)) found is)).1

  -- the records up to the line end, and those after it
  two_parts : (one two : List ℕ) → IsBetween (state_after st.StartRecord (one ++ byte ∷ []))
      → records default_config (one ++ byte ∷ two)
      ≡ records default_config (one ++ byte ∷ []) ++ records default_config two
  two_parts one two between =
      ap (λ (l : List ℕ). records default_config l) (sym (append_assoc one (byte ∷ []) two))
      ∙ cut_records (one ++ byte ∷ []) two between

  module _ (v : Version) (head line : List ℕ) (is_head : IsFront v head) (is_line : IsFront v line)
      (short : length line ≤ length head) (one two : List ℕ) where
    whole_length : length (head ++ (one ++ byte ∷ two)) ≡ length head + (length one + (1 + length two))
    whole_length = let a = length-append head (one ++ byte ∷ two) in let b = length-append one (byte ∷ two) in omega arith

    few_one : length (head ++ (one ++ byte ∷ two)) ≤ most_file_bytes → length (line ++ (one ++ byte ∷ [])) ≤ most_file_bytes
    few_one few =
        let w = whole_length in
        let a = length-append line (one ++ byte ∷ []) in
        let b = length-append one (byte ∷ []) in
        omega arith

    few_two : length (head ++ (one ++ byte ∷ two)) ≤ most_file_bytes → length (line ++ two) ≤ most_file_bytes
    few_two few = let w = whole_length in let a = length-append line two in omega arith

    -- an accepted file has accepted parts
    pub cut_after : (found : List Restriction) → IsFile (head ++ (one ++ byte ∷ two)) (Ok found)
        → (first : List Restriction) × (second : List Restriction) × IsFile (line ++ (one ++ byte ∷ [])) (Ok first)
        × IsFile (line ++ two) (Ok second) × (found ≡ first ++ second)
    cut_after found (inl p) =
        let table = table_under v head is_head.long is_head.is_header is_head.ends (one ++ byte ∷ two) found (inl p) in
        let rows = two_parts one two (between_rows v one two found table) in
        let parts = cut v (records default_config (one ++ byte ∷ [])) (records default_config two) found
        (subst (λ (t : List Fields). IsTable (header v ∷ t) (Ok found)) rows table) in (
          parts.0,
          parts.1,
          file_under v line is_line.long is_line.is_header is_line.ends (one ++ byte ∷ []) (Ok parts.0) (few_one p.0) parts.2,
          file_under v line is_line.long is_line.is_header is_line.ends two (Ok parts.1) (few_two p.0) parts.3,
          parts.4,
        )
    cut_after found (inr p) = absurd (cc (p.1))

    -- as many restrictions as rows
    many : (n : ℕ) (rows : List Fields) (found : List Restriction) → AreRecords v n rows found → length rows ≡ length found
    many n [] found are = sym (ap length are)
    many n (row ∷ rows) found are = let m = many (n + 1) rows are.1 are.3 in let l = ap length are.4 in omega arith

    module _ (few : length (head ++ (one ++ byte ∷ two)) ≤ most_file_bytes) (first : List Restriction)
        (accepted : IsFile (line ++ (one ++ byte ∷ [])) (Ok first)) where
      table_one : IsTable (header v ∷ records default_config (one ++ byte ∷ [])) (Ok first)
      table_one = table_under v line is_line.long is_line.is_header is_line.ends (one ++ byte ∷ []) first accepted

      rows_one : length (records default_config (one ++ byte ∷ [])) ≡ length first
      rows_one = many 1 (records default_config (one ++ byte ∷ [])) first
          (sound_of v (records default_config (one ++ byte ∷ [])) first table_one).1

      make : (answer : Result (List Restriction) RecordFault)
          → IsTable (header v ∷ (records default_config (one ++ byte ∷ []) ++ records default_config two)) answer
          → IsFile (head ++ (one ++ byte ∷ two)) answer
      make answer is =
          file_under v head is_head.long is_head.is_header is_head.ends (one ++ byte ∷ two) answer few
          (subst (λ (t : List Fields). IsTable (header v ∷ t) answer)
          (sym (two_parts one two (between_rows v one [] first table_one))) is)

      -- accepted parts make a file
      pub join_after : (second : List Restriction) → length (first ++ second) ≤ most_rows → IsFile (line ++ two) (Ok second)
          → IsFile (head ++ (one ++ byte ∷ two)) (Ok (first ++ second))
      join_after second rows p =
          let table_two = table_under v line is_line.long is_line.is_header is_line.ends two second p in
          let n = many 1 (records default_config two) second (sound_of v (records default_config two) second table_two).1 in
          let a = rows_one in
          let b = length-append first second in
          let c = length-append (records default_config (one ++ byte ∷ [])) (records default_config two) in
          make (Ok (first ++ second))
          (joined v (records default_config (one ++ byte ∷ [])) (records default_config two) first second
          (omega (arith, rows, n, a, b, c)) table_one table_two)

      -- the first fault of the second part is that of the whole
      pub fault_after : (why : RecordFault) → length first + length (records default_config two) ≤ most_rows
          → IsFile (line ++ two) (Err why)
          → IsFile (head ++ (one ++ byte ∷ two)) (Err (counted_on (length first) why))
      fault_after why rows p =
          let table_two = table_of v line is_line.long is_line.is_header is_line.ends two (Err why) (few_two few) p in
          let a = rows_one in
          let c = length-append (records default_config (one ++ byte ∷ [])) (records default_config two) in
          make (Err (counted_on (length first) why))
          (subst (λ (n : ℕ). IsTable (header v ∷ (records default_config (one ++ byte ∷ []) ++ records default_config two))
          (Err (counted_on n why))) a
          (second_part v (records default_config (one ++ byte ∷ [])) (records default_config two) first why
          (omega (arith, rows, a, c)) table_one table_two))
