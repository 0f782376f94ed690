-- Rows in another order stand for the same restrictions.
use Rattle.std.proofs.Common.{◌≡◌, ◌∙◌, sym, ap, refl, subst, arith, ◌<◌, ◌≤◌, ◌+◌, ◌↔◌, inl, ℕ, zero, suc, List, []}
use Rattle.std.proofs.Common.{◌∷◌, length}
use Rattle.std.specs.Prelude.{Result, Ok, slice_index_or}
use Rattle.std.specs.List.{Contains}
use Rattle.std.specs.List.Sorted.{IsPermutation}
use Rattle.std.proofs.lemmas.List.Sorted.{Contains-permutation, IsPermutation-sym, length_permutation}
use Rattle.gtd_core.specs.Limits.{most_rows}
use Rattle.gtd_text.specs.facts.OneMeaning.{one_meaning}
use Rattle.gtd_text.specs.facts.ReadingLaws.{one_fault}
use Rattle.gtd_records.proofs.CutFacts.{row_anywhere, sound_of}
use Rattle.gtd_records.specs.Closing.{Restriction}
use Rattle.gtd_rows.specs.Columns.{Fields}
use Rattle.gtd_records.specs.ComputedFile.{AreRecords, IsTable}
use Rattle.gtd_records.specs.ComputedRow.{IsRow}
use Rattle.gtd_records.specs.File.{header}
use Rattle.gtd_records.specs.declared.fault.RecordFault.{RecordFault}
use Rattle.gtd_rows.specs.declared.vehicles.Version.{Version}
use Rattle.gtd_records.specs.facts.OneAnswer.{one_row}

ok_is : (a b : Restriction) → ◌≡◌ {A = Result Restriction RecordFault} (Ok a) (Ok b) → a ≡ b
ok_is a b e = cc

module _ (v : Version) where
  -- each row has its restriction
  of_row : (n : ℕ) (rows : List Fields) (found : List Restriction) → AreRecords v n rows found
      → (row : Fields) (k : ℕ) → k < length rows → slice_index_or rows k row ≡ row
      → (r : Restriction) × IsRow v 1 row (Ok r) × Contains found r
  of_row n [] found are row k lt is = absurd (omega arith)
  of_row n (x ∷ rows) found are row zero lt is =
      let here : slice_index_or found 0 are.0 ≡ are.0 = rw are.4 refl in
      let some : 0 < length found = (let l = ap length are.4 in omega arith) in
      (are.0, row_anywhere v n 1 row are.0 (subst (λ (f : Fields). IsRow v n f (Ok are.0)) is are.2), (0, some, here))
  of_row n (x ∷ rows) found are row (suc k) lt is =
      let more = of_row (n + 1) rows are.1 are.3 row k (omega arith) is in
      let there : slice_index_or found (suc more.2.0) more.0 ≡ more.0 = rw are.4 more.2.2 in
      let some : suc more.2.0 < length found = (let l = ap length are.4 in let m = more.2.1 in omega arith) in
      (more.0, more.1, (suc more.2.0, some, there))

  -- each restriction has its row
  of_found : (n : ℕ) (rows : List Fields) (found : List Restriction) → AreRecords v n rows found
      → (r : Restriction) (k : ℕ) → k < length found → slice_index_or found k r ≡ r
      → (row : Fields) × IsRow v 1 row (Ok r) × Contains rows row
  of_found n [] found are r k lt is = absurd (let l = ap length are in omega arith)
  of_found n (x ∷ rows) found are r zero lt is =
      let same : are.0 ≡ r = ap (λ (l : List Restriction). slice_index_or l 0 r) (sym are.4) ∙ is in
      (x, row_anywhere v n 1 x r (subst (λ (s : Restriction). IsRow v n x (Ok s)) same are.2), (0, omega arith, refl))
  of_found n (x ∷ rows) found are r (suc k) lt is =
      let same : slice_index_or are.1 k r ≡ r = ap (λ (l : List Restriction). slice_index_or l (suc k) r) (sym are.4) ∙ is in
      let more = of_found (n + 1) rows are.1 are.3 r k (let l = ap length are.4 in omega arith) same in
      (more.0, more.1, (suc more.2.0, (let m = more.2.1 in omega arith), more.2.2))

  -- rows each of which stands for a restriction
  all_sound : (n : ℕ) (rows : List Fields) → ((row : Fields) → Contains rows row → (r : Restriction) × IsRow v 1 row (Ok r))
      → (found : List Restriction) × AreRecords v n rows found
  all_sound n [] each = ([], refl)
  all_sound n (x ∷ rows) each =
      let first = each x (0, omega arith, refl) in
      let more = all_sound (n + 1) rows (λ row c. each row (suc c.0, (let l = c.1 in omega arith), c.2)) in
      (first.0 ∷ more.0, (first.0, more.0, row_anywhere v 1 n x first.0 first.1, more.1, refl))

  -- the restrictions of rows are among those of other rows that have them all
  among : (rows other : List Fields) (found again : List Restriction) → AreRecords v 1 rows found → AreRecords v 1 other again
      → ((row : Fields) → Contains rows row → Contains other row)
      → (r : Restriction) → Contains found r → Contains again r
  among rows other found again are also has r c =
      let row = of_found 1 rows found are r c.0 c.1 c.2 in
      let there = has row.0 row.2 in
      let s = of_row 1 other again also row.0 there.0 there.1 there.2 in
      let same = ok_is s.0 r (one_row one_meaning one_fault v 1 row.0 (Ok s.0) (Ok r) s.1 row.1) in
      subst (λ (q : Restriction). Contains again q) same s.2

  pub in_any_order : (rows other : List Fields) (found : List Restriction) → IsPermutation rows other
      → IsTable (header v ∷ rows) (Ok found)
      → (again : List Restriction) × IsTable (header v ∷ other) (Ok again)
      × ((r : Restriction) → Contains again r ↔ Contains found r)
  in_any_order rows other found moved is =
      let sound = sound_of v rows found is in
      let back = IsPermutation-sym rows other moved in
      let each : (row : Fields) → Contains other row → (r : Restriction) × IsRow v 1 row (Ok r) = λ row c.
      let there = Contains-permutation other rows row back c in
      let s = of_row 1 rows found sound.1 row there.0 there.1 there.2 in
      (s.0, s.1) in
      let again = all_sound 1 other each in
      let few : length other ≤ most_rows = (let l = length_permutation rows other moved in let f = sound.0 in omega arith) in (
        again.0,
        inl (v, other, refl, (few, again.1)),
        λ r. (
          among other rows again.0 found again.1 sound.1 (λ row. Contains-permutation other rows row back) r,
          among rows other found again.0 sound.1 again.1 (λ row. Contains-permutation rows other row moved) r,
        ),
      )
