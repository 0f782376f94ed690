-- The note about the vehicle type of the command `now`.
use Rattle.std.specs.Prelude.{◌++◌, ℕ, Bool, true, false, List, Result, Ok, Err, codes, decimal}
use Rattle.gtd_faults.specs.Printable.{printable}
use Rattle.gtd_now.specs.declared.shown.Shown.{Shown}
use Rattle.gtd_report.specs.declared.fault.RunFault.{RunFault}
use Rattle.gtdesk_tool.specs.Telling.{IsUntold, Telling, Told}

-- the note that no row of the file with this path is for a vehicle type
abbrev pub vehicle_note : List ℕ → ℕ → List ℕ
vehicle_note path vehicle =
    codes "gtdesk: " ++ (printable path ++ (codes ": note: no row is for vehicle type " ++ (decimal vehicle ++ codes "\n")))

-- what the output for errors took for a file that was shown: the note exactly if no row is for the vehicle type
abbrev pub IsNotedIf : Bool → List ℕ → Telling → Type 0
IsNotedIf true note errors = IsUntold errors
IsNotedIf false note errors = Told errors note

abbrev pub IsNoted : List ℕ → Telling → Result Shown RunFault → Type 0
IsNoted note errors (Ok shown) = IsNotedIf shown.is_for_some note errors
IsNoted note errors (Err why) = IsUntold errors
