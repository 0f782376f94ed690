-- What a run answers.
use Rattle.std.specs.Prelude.{◌↔◌, ℕ, ⊤, IfSome, IsTrue, List, Option, Result, Ok, Err}
use Rattle.gtd_records.specs.Closing.{Restriction}
use Rattle.gtd_records.specs.File.{IsFile}
use Rattle.gtd_report.specs.declared.fault.RunFault.{RunFault}
use Rattle.gtd_warnings.specs.Vehicles.{IsForSome}
use Rattle.gtd_now.specs.declared.shown.Shown.{Shown}

-- the number of entries that it answers, or its fault
abbrev pub entries_of : Result Shown RunFault → Result ℕ RunFault
entries_of (Ok shown) = Ok shown.entries
entries_of (Err why) = Err why

-- It says exactly whether some row of the file is for the vehicle type.
abbrev pub TellsVehicle : ℕ → Option (List ℕ) → Result Shown RunFault → Type 0
TellsVehicle vehicle file (Ok shown) = IfSome file (λ bytes. (found : List Restriction) → IsFile bytes (Ok found)
    → IsTrue shown.is_for_some ↔ IsForSome found vehicle)
TellsVehicle vehicle file (Err why) = ⊤
