-- The claim of a run that prints the table of a year: for every restriction file of the profile that names the element, the
-- table shows, for each day of the year, the number of its seconds in which no record closes the element in the direction. A
-- file that does not name the element prints nothing, and the answer says so; any other file prints nothing and is refused
-- by its first fault.
--
-- `file` holds the bytes that the input still had to give, `before` and `after` those that the output had taken, if the
-- devices tell them; `answer` is that of the run.
use Rattle.std.specs.Prelude.{◌≡◌, ℕ, List, Any, Option, IfSome, Result, Ok, Err}
use Rattle.std.specs.Io.KnownBytes.{Keeps}
use Rattle.gtd_records.specs.File.{IsFile}
use Rattle.gtd_records.specs.Closing.{Restriction}
use Rattle.gtd_rows.specs.declared.direction.Direction.{Direction}
use Rattle.gtd_records.specs.declared.fault.RecordFault.{RecordFault}
use Rattle.gtd_report.specs.Run.{HadMemoryAndInput, PutsWhole}
use Rattle.gtd_report.specs.declared.fault.RunFault.{RunFault}
use Rattle.gtd_report.specs.declared.fault.RunFault.TheVariants as fault
use Rattle.gtd_year.specs.YearTable.{IsYearTable}

-- some restriction names the element
abbrev pub IsNamed : ℕ → List Restriction → Type 0
IsNamed element found = Any (λ (r : Restriction). r.element ≡ element) found

-- Of a run whose devices did not fail, if it had memory and input.
pub record YearClaim (element : ℕ) (direction : Direction) (vehicle year : ℕ)
    (file before after : Option (List ℕ)) (answer : Result ℕ RunFault) : Type 0 where
  pub accepted : HadMemoryAndInput answer → IfSome file (λ bytes. (found : List Restriction) → IsFile bytes (Ok found)
      → IsNamed element found → PutsWhole (IsYearTable found element direction vehicle year) before after answer)
  pub unnamed : HadMemoryAndInput answer → IfSome file (λ bytes. (found : List Restriction) → IsFile bytes (Ok found)
      → (IsNamed element found → ⊥) → (answer ≡ Err fault.NoElement) × Keeps before after)
  pub refused : HadMemoryAndInput answer → IfSome file (λ bytes. (why : RecordFault) → IsFile bytes (Err why)
      → (answer ≡ Err (fault.Records why)) × Keeps before after)
