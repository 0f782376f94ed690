-- The numbers of rows that are written into a buffer of the caller.
use Rattle.std.specs.Prelude.{◌≤◌, ℕ, ℤ, List}
use Rattle.std.specs.List.{All}
use Rattle.gtd_core.specs.Limits.{most_rows}
use Rattle.gtd_records.specs.Closing.{Restriction}
use Rattle.gtd_records.specs.ClosingRows.{AreClosingRows}
use Rattle.gtd_rows.specs.declared.direction.Direction.{Direction}
use Rattle.gtd_handles.specs.Writing.{IsWritten}

-- each is at most the number of the last row that a file may have
pub record AreRowNumbers (numbers : List ℕ) : Type 0 where
  pub each : All (λ number. number ≤ most_rows) numbers

-- the numbers are those of the rows that close the element, in ascending order, and are written
pub record AreClosersWritten (found : List Restriction) (element : ℕ) (direction : Direction) (vehicle : ℕ) (second : ℤ)
    (answer : ℕ) (old new : List ℕ) (count : ℕ) : Type 0 where
  pub numbers : List ℕ
  pub closing : AreClosingRows found element direction vehicle second numbers
  pub written : IsWritten numbers answer old new count
