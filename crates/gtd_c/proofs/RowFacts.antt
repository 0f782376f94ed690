-- The numbers of rows of a file are small.
use Rattle.std.proofs.Common.{arith, ◌≤◌, ℕ, List, length, slice_index_or}
use Rattle.std.specs.Prelude.{ℤ}
use Rattle.std.proofs.lemmas.List.Elements.{Contains-get_or}
use Rattle.gtd_core.specs.Limits.{most_rows}
use Rattle.gtd_records.specs.Closing.{Restriction}
use Rattle.gtd_records.specs.ClosingRows.{AreClosingRows}
use Rattle.gtd_rows.specs.declared.direction.Direction.{Direction}
use Rattle.gtd_c.specs.Rows.{AreRowNumbers}

-- the numbers of the rows that close an element are numbers of rows
pub row_numbers : (found : List Restriction) (element : ℕ) (direction : Direction) (vehicle : ℕ) (second : ℤ) (rows : List ℕ)
    → AreClosingRows found element direction vehicle second rows → length found ≤ most_rows → AreRowNumbers rows
row_numbers found element direction vehicle second rows closing few = record {
  each = λ k d within.
      let row = (closing.each (slice_index_or rows k d)).0 (Contains-get_or rows k d within) in
      omega (arith, row.is, row.within, few);
}
