-- `schedule FILE FROM TO VEHICLE`: the schedule of a record file.
use Rattle.std.specs.Prelude.{ℕ, List, [], ◌∷◌, Option, Some, None}
use Rattle.gtd_core.specs.declared.horizon.Horizon.{Horizon}
use Rattle.gtd_roads.specs.Schedule.{IsSchedule}
use Rattle.gtd_tool.specs.Asked.{Schedule, Text}
use Rattle.gtd_tool.specs.Readings.{DatePart, DaysPart, NumberUpToPart, Reading}
use Rattle.gtd_tool.specs.Task.{Task, reported}

-- The vehicle type is read first, and the word for the file is not checked.
abbrev pub reading : List Text → Option Reading
reading (file ∷ from ∷ to ∷ vehicle ∷ []) = Some (record {
  parts = NumberUpToPart 255 vehicle ∷ DatePart from ∷ DatePart to ∷ DaysPart from to ∷ [];
  asks = λ number first last horizon. Schedule file horizon number;
})
reading words = None

abbrev pub task : Text → Horizon → ℕ → Task
task path horizon vehicle =
    reported path (record { vehicle = Some vehicle; year = None; element = None }) (λ found. IsSchedule found vehicle horizon)
