-- The headline, of a run that prints a schedule:
--
--   For every restriction file of the profile, horizon and vehicle type, the schedule printed from the file's bytes shows a
--   road element of the file open in a direction at a second exactly if no record whose time domain contains that second
--   closes it, in ordered, disjoint, maximal intervals; any other file prints nothing and is refused by its first fault.
--
-- `file` holds the bytes that the input still had to give, `before` and `after` those that the output had taken, if the
-- devices tell them; `answer` is that of the run. What closes an element is `Closes`; how it is shown is `ShowsOpen`.
use Rattle.std.specs.Prelude.{◌≡◌, ℕ, List, Option, IfSome, Result, Ok, Err}
use Rattle.std.specs.Io.KnownBytes.{Keeps}
use Rattle.gtd_core.specs.declared.horizon.Horizon.{Horizon}
use Rattle.gtd_records.specs.File.{IsFile}
use Rattle.gtd_records.specs.Closing.{Restriction}
use Rattle.gtd_records.specs.declared.fault.RecordFault.{RecordFault}
use Rattle.gtd_report.specs.Run.{HadMemoryAndInput, PutsWhole}
use Rattle.gtd_report.specs.declared.fault.RunFault.{RunFault}
use Rattle.gtd_report.specs.declared.fault.RunFault.TheVariants as fault
use Rattle.gtd_schedule.specs.Shown.{ShowsOpen}

-- Of a run whose devices did not fail, if it had memory and input: the schedule of a restriction file is printed, whole; any
-- other file prints nothing, and the answer is its first fault.
pub record Headline (vehicle : ℕ) (horizon : Horizon)
    (file before after : Option (List ℕ)) (answer : Result ℕ RunFault) : Type 0 where
  pub accepted : HadMemoryAndInput answer → IfSome file (λ bytes. (found : List Restriction) → IsFile bytes (Ok found)
      → PutsWhole (ShowsOpen found vehicle horizon) before after answer)
  pub refused : HadMemoryAndInput answer → IfSome file (λ bytes. (why : RecordFault) → IsFile bytes (Err why)
      → (answer ≡ Err (fault.Records why)) × Keeps before after)
