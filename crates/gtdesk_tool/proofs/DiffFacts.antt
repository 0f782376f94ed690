-- A failure of a device is told by the run of `diff`, and by the command.
use Rattle.std.proofs.Common.{◌≡◌, refl, Bool, true, false, ℕ}
use Rattle.std.specs.Prelude.{Result, Ok, Err, if◌then◌else◌, nat_le}
use Rattle.gtd_records.specs.declared.fault.RecordFault.TheVariants as records
use Rattle.gtd_report.specs.declared.fault.RunFault.TheVariants as run
use Rattle.gtd_changes.specs.Run as runs
use Rattle.gtd_changes.specs.declared.fault.ChangesFault.{ChangesFault}
use Rattle.gtd_changes.specs.declared.fault.ChangesFault.TheVariants as changes
use Rattle.gtdesk_tool.specs.declared.refusal.RunRefusal.{RunRefusal}
use Rattle.gtdesk_tool.specs.Diff.{diff_outcome, failures_after_new, failures_after_old}
use Rattle.gtdesk_tool.specs.Running.{failures_after_write}
use Rattle.gtdesk_tool.specs.declared.ending.Ending.{Ending}
use Rattle.gtdesk_tool.specs.declared.ending.Ending.TheVariants as ending

-- either ending is no failure
abbrev ending_of : Bool → Result Ending RunRefusal
ending_of b = if b then Ok ending.Done else Ok ending.Differ

old_ending : (b : Bool) (n : ℕ) → n ≡ failures_after_old (ending_of b) n
old_ending true n = refl
old_ending false n = refl

pub diff_old : (answer : Result ℕ ChangesFault) (n : ℕ) → runs.failures_after_old answer n
    ≡ failures_after_old (diff_outcome answer) n
diff_old (Ok lines) n = old_ending (nat_le lines 1) n
diff_old (Err (changes.Old records.ReadFault)) n = refl
diff_old (Err (changes.Old records.Endless)) n = refl
diff_old (Err (changes.Old records.NoMemory)) n = refl
diff_old (Err (changes.Old records.TooLarge)) n = refl
diff_old (Err (changes.Old records.Header)) n = refl
diff_old (Err (changes.Old (records.FieldCount row))) n = refl
diff_old (Err (changes.Old (records.Element row))) n = refl
diff_old (Err (changes.Old (records.Direction row))) n = refl
diff_old (Err (changes.Old (records.Vehicle row))) n = refl
diff_old (Err (changes.Old (records.Domain row fault))) n = refl
diff_old (Err (changes.Old records.TooManyRows)) n = refl
diff_old (Err (changes.Run run.VehicleRange)) n = refl
diff_old (Err (changes.Run run.YearRange)) n = refl
diff_old (Err (changes.Run run.NoElement)) n = refl
diff_old (Err (changes.Run (run.WriteFault m))) n = refl
diff_old (Err (changes.Run (run.NoMemory m))) n = refl
diff_old (Err (changes.Run (run.Records records.ReadFault))) n = refl
diff_old (Err (changes.Run (run.Records records.Endless))) n = refl
diff_old (Err (changes.Run (run.Records records.NoMemory))) n = refl
diff_old (Err (changes.Run (run.Records records.TooLarge))) n = refl
diff_old (Err (changes.Run (run.Records records.Header))) n = refl
diff_old (Err (changes.Run (run.Records (records.FieldCount row)))) n = refl
diff_old (Err (changes.Run (run.Records (records.Element row)))) n = refl
diff_old (Err (changes.Run (run.Records (records.Direction row)))) n = refl
diff_old (Err (changes.Run (run.Records (records.Vehicle row)))) n = refl
diff_old (Err (changes.Run (run.Records (records.Domain row fault)))) n = refl
diff_old (Err (changes.Run (run.Records records.TooManyRows))) n = refl

new_ending : (b : Bool) (n : ℕ) → n ≡ failures_after_new (ending_of b) n
new_ending true n = refl
new_ending false n = refl

pub diff_new : (answer : Result ℕ ChangesFault) (n : ℕ) → runs.failures_after_new answer n
    ≡ failures_after_new (diff_outcome answer) n
diff_new (Ok lines) n = new_ending (nat_le lines 1) n
diff_new (Err (changes.Old records.ReadFault)) n = refl
diff_new (Err (changes.Old records.Endless)) n = refl
diff_new (Err (changes.Old records.NoMemory)) n = refl
diff_new (Err (changes.Old records.TooLarge)) n = refl
diff_new (Err (changes.Old records.Header)) n = refl
diff_new (Err (changes.Old (records.FieldCount row))) n = refl
diff_new (Err (changes.Old (records.Element row))) n = refl
diff_new (Err (changes.Old (records.Direction row))) n = refl
diff_new (Err (changes.Old (records.Vehicle row))) n = refl
diff_new (Err (changes.Old (records.Domain row fault))) n = refl
diff_new (Err (changes.Old records.TooManyRows)) n = refl
diff_new (Err (changes.Run run.VehicleRange)) n = refl
diff_new (Err (changes.Run run.YearRange)) n = refl
diff_new (Err (changes.Run run.NoElement)) n = refl
diff_new (Err (changes.Run (run.WriteFault m))) n = refl
diff_new (Err (changes.Run (run.NoMemory m))) n = refl
diff_new (Err (changes.Run (run.Records records.ReadFault))) n = refl
diff_new (Err (changes.Run (run.Records records.Endless))) n = refl
diff_new (Err (changes.Run (run.Records records.NoMemory))) n = refl
diff_new (Err (changes.Run (run.Records records.TooLarge))) n = refl
diff_new (Err (changes.Run (run.Records records.Header))) n = refl
diff_new (Err (changes.Run (run.Records (records.FieldCount row)))) n = refl
diff_new (Err (changes.Run (run.Records (records.Element row)))) n = refl
diff_new (Err (changes.Run (run.Records (records.Direction row)))) n = refl
diff_new (Err (changes.Run (run.Records (records.Vehicle row)))) n = refl
diff_new (Err (changes.Run (run.Records (records.Domain row fault)))) n = refl
diff_new (Err (changes.Run (run.Records records.TooManyRows))) n = refl

write_ending : (b : Bool) (n : ℕ) → n ≡ failures_after_write (ending_of b) n
write_ending true n = refl
write_ending false n = refl

pub diff_write : (answer : Result ℕ ChangesFault) (n : ℕ) → runs.failures_after_write answer n
    ≡ failures_after_write (diff_outcome answer) n
diff_write (Ok lines) n = write_ending (nat_le lines 1) n
diff_write (Err (changes.Old records.ReadFault)) n = refl
diff_write (Err (changes.Old records.Endless)) n = refl
diff_write (Err (changes.Old records.NoMemory)) n = refl
diff_write (Err (changes.Old records.TooLarge)) n = refl
diff_write (Err (changes.Old records.Header)) n = refl
diff_write (Err (changes.Old (records.FieldCount row))) n = refl
diff_write (Err (changes.Old (records.Element row))) n = refl
diff_write (Err (changes.Old (records.Direction row))) n = refl
diff_write (Err (changes.Old (records.Vehicle row))) n = refl
diff_write (Err (changes.Old (records.Domain row fault))) n = refl
diff_write (Err (changes.Old records.TooManyRows)) n = refl
diff_write (Err (changes.Run run.VehicleRange)) n = refl
diff_write (Err (changes.Run run.YearRange)) n = refl
diff_write (Err (changes.Run run.NoElement)) n = refl
diff_write (Err (changes.Run (run.WriteFault m))) n = refl
diff_write (Err (changes.Run (run.NoMemory m))) n = refl
diff_write (Err (changes.Run (run.Records records.ReadFault))) n = refl
diff_write (Err (changes.Run (run.Records records.Endless))) n = refl
diff_write (Err (changes.Run (run.Records records.NoMemory))) n = refl
diff_write (Err (changes.Run (run.Records records.TooLarge))) n = refl
diff_write (Err (changes.Run (run.Records records.Header))) n = refl
diff_write (Err (changes.Run (run.Records (records.FieldCount row)))) n = refl
diff_write (Err (changes.Run (run.Records (records.Element row)))) n = refl
diff_write (Err (changes.Run (run.Records (records.Direction row)))) n = refl
diff_write (Err (changes.Run (run.Records (records.Vehicle row)))) n = refl
diff_write (Err (changes.Run (run.Records (records.Domain row fault)))) n = refl
diff_write (Err (changes.Run (run.Records records.TooManyRows))) n = refl
