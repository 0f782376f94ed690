-- `year FILE ELEMENT DIRECTION VEHICLE YEAR`: the table of a year for an element of a record file.
use Rattle.std.specs.Prelude.{◌≡◌, ℕ, List, [], ◌∷◌, Option, Some, None}
use Rattle.gtd_roads.specs.Columns.{direction_of, number_of}
use Rattle.gtd_roads.specs.Direction.{Direction}
use Rattle.gtd_roads.specs.YearTable.{IsYearTable}
use Rattle.gtd_tool.specs.Asked.{Year, Text}
use Rattle.gtd_tool.specs.Readings.{DirectionPart, IsNumberUpTo, NumberPart, NumberUpToPart, Part, Reading}
use Rattle.gtd_tool.specs.Task.{Task, reported}

-- The parts of the words that say which table is asked for.
abbrev pub table_parts : Text → Text → Text → Text → List Part
table_parts element direction vehicle year =
    NumberPart element ∷ DirectionPart direction ∷ NumberUpToPart 255 vehicle ∷ NumberUpToPart 65535 year ∷ []

-- The words stand for these.
pub record AreTableWords (element direction vehicle year : Text) (e : ℕ) (d : Direction) (v y : ℕ) : Type 0 where
  pub element_read : number_of element ≡ Some e
  pub direction_read : direction_of direction ≡ Some d
  pub vehicle_read : IsNumberUpTo 255 vehicle v
  pub year_read : IsNumberUpTo 65535 year y

-- The word for the file is not checked.
abbrev pub reading : List Text → Option Reading
reading (file ∷ element ∷ direction ∷ vehicle ∷ year ∷ []) =
    Some (record { parts = table_parts element direction vehicle year; asks = Year file })
reading words = None

-- The table needs a record that names the element.
abbrev pub task : Text → ℕ → Direction → ℕ → ℕ → Task
task path element direction vehicle year =
    reported path (record { vehicle = Some vehicle; year = Some year; element = Some element })
    (λ found. IsYearTable found element direction vehicle year)
