-- An accepted file may be cut between two of its rows, byte for byte.
use Rattle.std.proofs.Common.{◌≡◌, ◌∙◌, sym, ap, refl, subst, arith, ◌≤◌, inl, inr, ℕ, List, [], ◌∷◌, ◌++◌, length}
use Rattle.std.proofs.Common.{◌+◌, length-append}
use Rattle.std.specs.Prelude.{Result, Ok, Err}
use Rattle.std.proofs.lemmas.Bool.{cases_Bool}
use Rattle.csv.specs.Reading.{default_config, is_bom, records, strip_bom}
use Rattle.csv.specs.declared.parser.State.TheVariants as st
use Rattle.gtd_records.proofs.CutBytes.{cut_records}
use Rattle.gtd_records.proofs.CutFacts.{cut, joined}
use Rattle.gtd_records.proofs.CutFaults.{first_part, second_part}
use Rattle.gtd_records.specs.Cut.{counted_on, state_after}
use Rattle.gtd_core.specs.Limits.{most_file_bytes, most_rows}
use Rattle.gtd_records.specs.ComputedFile.{IsFile, IsTable}
use Rattle.gtd_records.specs.File.{header}
use Rattle.gtd_records.specs.Closing.{Restriction}
use Rattle.gtd_rows.specs.Table.{IsBetween}
use Rattle.gtd_rows.specs.Columns.{Fields}
use Rattle.gtd_records.specs.declared.fault.RecordFault.{RecordFault}
use Rattle.gtd_rows.specs.declared.vehicles.Version.{Version}

strips : (head rest : List ℕ) → 3 ≤ length head → strip_bom (head ++ rest) ≡ strip_bom head ++ rest
unfolding strip_bom
strips [] rest long = absurd (omega arith)
strips (a ∷ []) rest long = absurd (omega arith)
strips (a ∷ b ∷ []) rest long = absurd (omega arith)
strips (a ∷ b ∷ c ∷ more) rest long = elim (cases_Bool (is_bom a b c)) [ inl e ↦ rw e refl | inr e ↦ rw e refl ]

module _ (v : Version) (head : List ℕ) (long : 3 ≤ length head)
    (is_head : records default_config (strip_bom head) ≡ header v ∷ [])
    (ends : IsBetween (state_after st.StartRecord (strip_bom head))) where
  pub under : (rest : List ℕ) → records default_config (strip_bom (head ++ rest)) ≡ header v ∷ records default_config rest
  under rest =
      ap (λ (l : List ℕ). records default_config l) (strips head rest long)
      ∙ cut_records (strip_bom head) rest ends
      ∙ ap (λ (l : List Fields). l ++ records default_config rest) is_head

  -- what the rows under the header say is what the file says
  pub file_under : (rest : List ℕ) (answer : Result (List Restriction) RecordFault) → length (head ++ rest) ≤ most_file_bytes
      → IsTable (header v ∷ records default_config rest) answer → IsFile (head ++ rest) answer
  file_under rest answer few is = inl (few, subst (λ (t : List Fields). IsTable t answer) (sym (under rest)) is)

  -- and so for an accepted file
  pub table_under : (rest : List ℕ) (found : List Restriction) → IsFile (head ++ rest) (Ok found)
      → IsTable (header v ∷ records default_config rest) (Ok found)
  table_under rest found (inl p) = subst (λ (t : List Fields). IsTable t (Ok found)) (under rest) p.1
  table_under rest found (inr p) = absurd (cc (p.1))

  pub cut_file : (one two : List ℕ) (found : List Restriction) → IsBetween (state_after st.StartRecord one)
      → IsFile (head ++ (one ++ two)) (Ok found)
      → (first : List Restriction) × (second : List Restriction) × IsFile (head ++ one) (Ok first)
      × IsFile (head ++ two) (Ok second)
      × (found ≡ first ++ second)
  cut_file one two found between (inl p) =
      let rows = ap (λ (l : List Fields). header v ∷ l) (cut_records one two between) in
      let table = subst (λ (t : List Fields). IsTable t (Ok found)) (under (one ++ two) ∙ rows) p.1 in
      let c = cut v (records default_config one) (records default_config two) found table in
      let few = p.0 in
      let l = length-append head (one ++ two) in
      let m = length-append one two in
      let a = length-append head one in
      let b = length-append head two in (
        c.0,
        c.1,
        file_under one (Ok c.0) (omega (arith, few, l, m, a)) c.2,
        file_under two (Ok c.1) (omega (arith, few, l, m, b)) c.3,
        c.4,
      )
  cut_file one two found between (inr p) = absurd (cc (p.1))

  -- ---- parts make a whole

  -- what a part stands for, or its first fault, is that of its rows under the header
  pub table_of : (rest : List ℕ) (answer : Result (List Restriction) RecordFault) → length (head ++ rest) ≤ most_file_bytes
      → IsFile (head ++ rest) answer → IsTable (header v ∷ records default_config rest) answer
  table_of rest answer few (inl p) = subst (λ (t : List Fields). IsTable t answer) (under rest) p.1
  table_of rest answer few (inr p) = absurd (let l = p.0 in omega arith)

  module _ (one two : List ℕ) (between : IsBetween (state_after st.StartRecord one))
      (few : length (head ++ (one ++ two)) ≤ most_file_bytes) where
    file_of : (answer : Result (List Restriction) RecordFault)
        → IsTable (header v ∷ (records default_config one ++ records default_config two)) answer
        → IsFile (head ++ (one ++ two)) answer
    file_of answer is =
        let rows = ap (λ (l : List Fields). header v ∷ l) (cut_records one two between) in
        inl (few, subst (λ (t : List Fields). IsTable t answer) (sym (under (one ++ two) ∙ rows)) is)

    lengths : length (head ++ (one ++ two)) ≡ length head + (length one + length two)
    lengths = simp (length-append)

    few_one : length (head ++ one) ≤ most_file_bytes
    few_one = let a = length-append head one in omega (arith, lengths)

    few_two : length (head ++ two) ≤ most_file_bytes
    few_two = let b = length-append head two in omega (arith, lengths)

    pub join_files : (first second : List Restriction)
        → length (records default_config one ++ records default_config two) ≤ most_rows
        → IsFile (head ++ one) (Ok first) → IsFile (head ++ two) (Ok second)
        → IsFile (head ++ (one ++ two)) (Ok (first ++ second))
    join_files first second rows p q =
        file_of (Ok (first ++ second)) (joined v (records default_config one) (records default_config two) first second rows
        (table_of one (Ok first) few_one p) (table_of two (Ok second) few_two q))

    pub fault_first : (why : RecordFault) → IsFile (head ++ one) (Err why) → IsFile (head ++ (one ++ two)) (Err why)
    fault_first why p =
        file_of (Err why) (first_part v (records default_config one) (records default_config two) why
        (table_of one (Err why) few_one p))

    pub fault_later : (first : List Restriction) (why : RecordFault)
        → length (records default_config one ++ records default_config two) ≤ most_rows
        → IsFile (head ++ one) (Ok first) → IsFile (head ++ two) (Err why)
        → IsFile (head ++ (one ++ two)) (Err (counted_on (length (records default_config one)) why))
    fault_later first why rows p q =
        file_of (Err (counted_on (length (records default_config one)) why))
        (second_part v (records default_config one) (records default_config two) first why rows
        (table_of one (Ok first) few_one p) (table_of two (Err why) few_two q))
