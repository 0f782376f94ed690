-- The claim of a run that migrates a file: for every restriction file of the profile, the file of version 2 that stands for
-- the same restrictions is printed, row by row; any other file prints nothing and is refused by its first fault.
--
-- `file` holds the bytes that the input still had to give, `before` and `after` those that the output had taken, if the
-- devices tell them; `answer` is that of the run.
use Rattle.std.specs.Prelude.{◌≡◌, ℕ, List, Option, IfSome, Result, Ok, Err}
use Rattle.std.specs.Io.KnownBytes.{Keeps}
use Rattle.gtd_migrate.specs.Migrated.{migrated}
use Rattle.gtd_records.specs.File.{IsFile}
use Rattle.gtd_records.specs.Closing.{Restriction}
use Rattle.gtd_records.specs.declared.fault.RecordFault.{RecordFault}
use Rattle.gtd_report.specs.Run.{HadMemoryAndInput, PutsWhole}
use Rattle.gtd_report.specs.declared.fault.RunFault.{RunFault}
use Rattle.gtd_report.specs.declared.fault.RunFault.TheVariants as fault

-- Of a run whose devices did not fail, if it had memory and input.
pub record MigrationClaim (file before after : Option (List ℕ)) (answer : Result ℕ RunFault) : Type 0 where
  pub accepted : HadMemoryAndInput answer → IfSome file (λ bytes. (found : List Restriction) → IsFile bytes (Ok found)
      → PutsWhole (λ lines. lines ≡ migrated found) before after answer)
  pub refused : HadMemoryAndInput answer → IfSome file (λ bytes. (why : RecordFault) → IsFile bytes (Err why)
      → (answer ≡ Err (fault.Records why)) × Keeps before after)
