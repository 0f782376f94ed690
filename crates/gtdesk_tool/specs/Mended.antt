-- What the command `mend` of a record file prints, and how it ends.
use Rattle.std.specs.Prelude.{◌≡◌, ◌≢◌, ℕ, Bool, List, Option, Result, Ok, Err, IfErr, IfSome, IsErrOf, IsTrue, OnOk}
use Rattle.std.specs.Io.KnownBytes.{Keeps}
use Rattle.gtd_mend.specs.Run.{HasMended, failures_after_listing}
use Rattle.gtd_mend.specs.declared.fault.MendFault.{MendFault}
use Rattle.gtd_mend.specs.declared.fault.MendFault.TheVariants as mend
use Rattle.gtd_records.specs.declared.fault.RecordFault.TheVariants as records
use Rattle.gtdesk_tool.specs.Telling.{Telling}
use Rattle.gtdesk_tool.specs.declared.ending.Ending.{Ending}
use Rattle.gtdesk_tool.specs.declared.ending.Ending.TheVariants as ending
use Rattle.gtdesk_tool.specs.declared.refusal.RunRefusal.{RunRefusal}
use Rattle.gtdesk_tool.specs.declared.refusal.RunRefusal.TheVariants as refusal

-- The answer of `mend`, from that of its run. If the list of changes was cut, the file is mended all the same.
abbrev pub mended_outcome : Result ℕ MendFault → Result Ending RunRefusal
mended_outcome (Ok changes) = Ok ending.Done
mended_outcome (Err mend.ReadFault) = Err (refusal.Records records.ReadFault)
mended_outcome (Err mend.TooLarge) = Err (refusal.Records records.TooLarge)
mended_outcome (Err mend.Endless) = Err (refusal.Records records.Endless)
mended_outcome (Err mend.NoMemory) = Err refusal.Memory
mended_outcome (Err mend.WriteFault) = Err refusal.Write
mended_outcome (Err mend.ListingFault) = Ok ending.Done

-- The run of `mend` had an answer, and all that the run promises for this answer holds.
pub record RanMended (path : List ℕ) (file old new : Option (List ℕ)) (silent ended : Bool) (errors : Telling)
    (result : Result Ending RunRefusal) : Type 0 where
  pub answer : Result ℕ MendFault
  pub outcome : result ≡ mended_outcome answer
  pub mended : IfSome file (λ bytes. HasMended path bytes old new errors.before errors.after answer)
  pub kept : IfErr answer (λ why. why ≢ mend.WriteFault → why ≢ mend.ListingFault
      → Keeps old new × Keeps errors.before errors.after)
  pub whole : OnOk answer (IsTrue ended)
  pub endless : IsErrOf answer mend.Endless → IsTrue silent
  pub listing : errors.failed_after ≡ failures_after_listing answer errors.failed_before
