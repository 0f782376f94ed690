-- Each row of a file has its line.
use Rattle.std.proofs.Common.{◌≡◌, ◌<◌, ◌≤◌, ◌+◌, ◌-◌, ap, arith, subst, ℕ, List, [], ◌∷◌, drop, get_or, inl, inr, length}
use Rattle.std.specs.Prelude.{Ok}
use Rattle.csv.specs.Reading.{default_config, records, strip_bom}
use Rattle.gtd_lines.specs.Lines.{AreLinesOfRows, IsLine}
use Rattle.gtd_records.specs.Closing.{Restriction}
use Rattle.gtd_records.specs.File.{AreRows, IsFile, IsTable}
use Rattle.gtd_rows.specs.declared.vehicles.Version.{Version}
use Rattle.gtd_now.specs.Reasons.{row_line}

rows_many : (v : Version) (number : ℕ) (rows : List (List (List ℕ))) (found : List Restriction) → AreRows v number rows (Ok found)
    → length found ≡ length rows
rows_many v number [] found are = let none : found ≡ [] = cc in ap length none
rows_many v number (row ∷ rows) found are =
    let more = rows_many v (number + 1) rows are.2 are.4 in let all = ap length are.5 in omega (arith, more, all)

table_many : (text : List (List (List ℕ))) (found : List Restriction) → IsTable text (Ok found)
    → length found ≡ length (drop 1 text)
table_many text found (inl t) = let many = rows_many t.0 1 t.1 found t.3 in rw (t.2) many
table_many text found (inr t) = absurd (cc (t.1))

file_many : (bytes : List ℕ) (found : List Restriction) → IsFile bytes (Ok found)
    → length found ≡ length (drop 1 (records default_config (strip_bom bytes)))
file_many bytes found (inl f) = table_many (records default_config (strip_bom bytes)) found f.1
file_many bytes found (inr f) = absurd (cc (f.1))

pub line_of_row : (bytes lines : List ℕ) (found : List Restriction) (row : ℕ) → IsFile bytes (Ok found)
    → AreLinesOfRows bytes lines
    → 0 < row → row ≤ length found → IsLine bytes row (row_line lines row)
line_of_row bytes lines found row file are more few =
    let many = file_many bytes found file in
    let all = are.all in
    let same : (row - 1) + 1 ≡ row = omega (arith, more) in
    subst (λ (n : ℕ). IsLine bytes n (get_or lines (row - 1) 0)) same (are.each (row - 1) (omega (arith, many, all, more, few)))
