-- The lines of findings, with the line of one finding more.
use Rattle.std.proofs.Common.{◌≡◌, ◌<◌, ◌≤◌, ◌+◌, sym, refl, ap, subst, arith, inl, inr, ℕ, zero, suc, Option, Some, None}
use Rattle.std.proofs.Common.{List, [], ◌∷◌, ◌++◌, append-nil, append_assoc, drop, get_or, length}
use Rattle.std.specs.Prelude.{Ok}
use Rattle.csv.specs.Reading.{default_config, records, strip_bom}
use Rattle.gtd_lines.specs.Lines.{AreLinesOfRows, IsLine}
use Rattle.gtd_records.specs.Closing.{Restriction}
use Rattle.gtd_records.specs.File.{AreRows, IsFile, IsTable}
use Rattle.gtd_rows.specs.declared.vehicles.Version.{Version}
use Rattle.gtd_repeats.specs.Findings.{AreFindingsOf, IsSaidOfRow, IsSaidOfText, with_finding}
use Rattle.gtd_repeats.specs.Listing.{AreFindingLines, AreOfRows, finding_line, row_count, row_of}
use Rattle.gtd_repeats.specs.declared.findings.Finding.{Finding}
use Rattle.gtd_repeats.specs.declared.findings.Finding.TheVariants.{SameRow, WithinRow, SameMeaning}

pub finding_lines_more : (path bytes : List ℕ) (findings : List Finding) (said : Finding) (text : List ℕ) (line : ℕ)
    → IsLine bytes (row_of said) line → AreFindingLines path bytes findings text
    → AreFindingLines path bytes (findings ++ said ∷ []) (text ++ finding_line path line said)
finding_lines_more path bytes [] said text line on is =
    (line, on, [], refl, rw is (sym (append-nil (finding_line path line said))))
finding_lines_more path bytes (x ∷ findings) said text line on is = (
  is.0,
  is.1,
  is.2 ++ finding_line path line said,
  finding_lines_more path bytes findings said is.2 line on is.3,
  rw (is.4) (append_assoc (finding_line path is.0 x) is.2 (finding_line path line said)),
)

-- ---- the rows of which something is said

one_more : (count : ℕ) (before : List Finding) (finding : Finding) → 0 < row_of finding → row_of finding ≤ count
    → AreOfRows count before → AreOfRows count (before ++ finding ∷ [])
one_more count [] finding some le h = (some, le, tt)
one_more count (x ∷ before) finding some le h = (h.0, h.1, one_more count before finding some le h.2)

row_more : (rows : List Restriction) (row count : ℕ) (before : List Finding) (said : Option Finding) → row < count
    → IsSaidOfRow rows row said → AreOfRows count before → AreOfRows count (with_finding before said)
row_more rows row count before None few is h = h
row_more rows row count before (Some (SameRow number of)) few is h =
    one_more count before (SameRow number of) (let e = is.3 in omega (arith, e)) (let e = is.3 in omega (arith, e, few)) h
row_more rows row count before (Some (WithinRow number of)) few is h =
    one_more count before (WithinRow number of) (let e = is.3 in omega (arith, e)) (let e = is.3 in omega (arith, e, few)) h
row_more rows row count before (Some (SameMeaning number of)) few is h = absurd is

text_more : (rows : List Restriction) (row count : ℕ) (before : List Finding) (said : Option Finding) → row < count
    → IsSaidOfText rows row said → AreOfRows count before → AreOfRows count (with_finding before said)
text_more rows row count before None few is h = h
text_more rows row count before (Some (SameRow number of)) few is h = absurd is
text_more rows row count before (Some (WithinRow number of)) few is h = absurd is
text_more rows row count before (Some (SameMeaning number of)) few is h =
    one_more count before (SameMeaning number of) (let e = is.4 in omega (arith, e)) (let e = is.4 in omega (arith, e, few)) h

of_rows : (rows : List Restriction) (n count : ℕ) (findings : List Finding) → n ≤ count → AreFindingsOf rows n findings
    → AreOfRows count findings
unfolding AreFindingsOf
of_rows rows zero count findings le h = subst (λ (f : List Finding). AreOfRows count f) (sym h) tt
of_rows rows (suc n) count findings le h =
    let few : n < count = omega (arith, le) in
    subst (λ (f : List Finding). AreOfRows count f) (sym (h.6))
    (text_more rows n count (with_finding h.0 h.1) h.2 few h.5
    (row_more rows n count h.0 h.1 few h.4 (of_rows rows n count h.0 (omega (arith, le)) h.3)))

rows_count : (v : Version) (number : ℕ) (rows : List (List (List ℕ))) (found : List Restriction)
    → AreRows v number rows (Ok found)
    → length found ≡ length rows
rows_count v number [] found are = let e : found ≡ [] = cc in ap length e
rows_count v number (row ∷ rows) found are =
    let n = rows_count v (number + 1) rows are.2 are.4 in
    let l = ap length are.5 in
    omega (arith, n, l)

table_count : (text : List (List (List ℕ))) (found : List Restriction) → IsTable text (Ok found)
    → length found ≡ length (drop 1 text)
table_count text found (inl t) = rw (t.2) (rows_count t.0 1 t.1 found t.3)
table_count text found (inr t) = absurd (cc (t.1))

file_count : (bytes : List ℕ) (found : List Restriction) → IsFile bytes (Ok found) → length found ≡ row_count bytes
file_count bytes found (inl f) = table_count (records default_config (strip_bom bytes)) found f.1
file_count bytes found (inr f) = absurd (cc (f.1))

-- the findings of a file are about its rows
pub of_file : (bytes : List ℕ) (found : List Restriction) (findings : List Finding) → IsFile bytes (Ok found)
    → AreFindingsOf found (length found) findings → AreOfRows (row_count bytes) findings
of_file bytes found findings file are =
    let e = file_count bytes found file in
    of_rows found (length found) (row_count bytes) findings (omega (arith, e)) are

-- the row of a finding among others
pub of_row_at : (count : ℕ) (findings : List Finding) (at : ℕ) (d : Finding) → at < length findings → AreOfRows count findings
    → (0 < row_of (get_or findings at d)) × (row_of (get_or findings at d) ≤ count)
of_row_at count [] at d inside h = absurd (omega (arith, inside))
of_row_at count (x ∷ findings) zero d inside h = (h.0, h.1)
of_row_at count (x ∷ findings) (suc at) d inside h = of_row_at count findings at d (omega (arith, inside)) h.2

-- the line of a row
pub line_of_row : (bytes lines : List ℕ) (row at : ℕ) → AreLinesOfRows bytes lines → 0 < row → row ≤ row_count bytes
    → row ≡ at + 1
    → IsLine bytes row (get_or lines at 0)
line_of_row bytes lines row at are some le e =
    let all = are.all in
    let is = are.each at (omega (arith, all, le, e)) in
    subst (λ (r : ℕ). IsLine bytes r (get_or lines at 0)) (sym e) is
