-- How many records a file has.
use Rattle.std.proofs.Common.{◌≡◌, ◌≤◌, ◌+◌, inl, inr, ap, arith, ℕ, List, [], ◌∷◌, length}
use Rattle.std.specs.Prelude.{Ok}
use Rattle.gtd_records.specs.ComputedFile.{AreRecords, IsTable}
use Rattle.gtd_rows.specs.Columns.{Fields}
use Rattle.gtd_records.specs.Closing.{Restriction}
use Rattle.gtd_rows.specs.declared.vehicles.Version.{Version}

-- a file has no more records than it may have rows
pub record_count : (v : Version) (number : ℕ) (rows : List Fields) (found : List Restriction) → AreRecords v number rows found
    → length found ≡ length rows
record_count v number [] found are = ap length are
record_count v number (row ∷ rows) found are = let n = record_count v (number + 1) rows are.1 are.3 in let l = ap length are.4 in
    omega (arith, n, l)

pub few_of : (text : List Fields) (found : List Restriction) → IsTable text (Ok found) → length found ≤ 65536
few_of text found (inl t) = let n = record_count t.0 1 t.1 found t.3.1 in let few = t.3.0 in omega (arith, n, few)
few_of text found (inr t) = absurd (cc (t.1))
