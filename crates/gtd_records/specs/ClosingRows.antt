-- The rows of a file, numbered from 1, that close an element.
use Rattle.std.specs.Prelude.{◌≡◌, ◌<◌, ◌+◌, ◌↔◌, ℕ, ℤ, List, length, slice_index_or}
use Rattle.std.specs.List.{Contains}
use Rattle.std.specs.List.Sorted.{IsStrictlyIncreasing}
use Rattle.gtd_records.specs.Closing.{Closes, Restriction}
use Rattle.gtd_rows.specs.declared.direction.Direction.{Direction}

module _ (found : List Restriction) (element : ℕ) (direction : Direction) (vehicle : ℕ) (second : ℤ) where
  -- the row with this number closes the element in the direction for the vehicle type at the second
  pub record IsClosingRow (number : ℕ) : Type 0 where
    pub before : ℕ
    pub is : number ≡ before + 1
    pub within : before < length found
    pub row : Restriction
    pub stands : slice_index_or found before row ≡ row
    pub closes : Closes element direction vehicle second row

  -- exactly the numbers of the rows that close it, in ascending order
  pub record AreClosingRows (numbers : List ℕ) : Type 0 where
    pub ascending : IsStrictlyIncreasing numbers
    pub each : (number : ℕ) → Contains numbers number ↔ IsClosingRow number
