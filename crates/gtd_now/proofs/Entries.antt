-- The failures that the answer of a run counts are those of its answer with the number of entries alone.
use Rattle.std.proofs.Common.{◌≡◌, refl, ℕ}
use Rattle.std.specs.Prelude.{Result, Ok, Err}
use Rattle.gtd_records.specs.declared.fault.RecordFault.TheVariants as records
use Rattle.gtd_report.specs.Run.{failures_after_read, failures_after_write}
use Rattle.gtd_report.specs.declared.fault.RunFault.{RunFault}
use Rattle.gtd_report.specs.declared.fault.RunFault.TheVariants as fault
use Rattle.gtd_now.specs.Run.{entries_of}
use Rattle.gtd_now.specs.declared.shown.Shown.{Shown}

pub read_by_entries : (answer : Result Shown RunFault) (n : ℕ)
    → failures_after_read (entries_of answer) n ≡ failures_after_read answer n
read_by_entries (Ok shown) n = refl
read_by_entries (Err fault.VehicleRange) n = refl
read_by_entries (Err fault.YearRange) n = refl
read_by_entries (Err fault.NoElement) n = refl
read_by_entries (Err (fault.WriteFault m)) n = refl
read_by_entries (Err (fault.NoMemory m)) n = refl
read_by_entries (Err (fault.Records records.ReadFault)) n = refl
read_by_entries (Err (fault.Records records.Endless)) n = refl
read_by_entries (Err (fault.Records records.NoMemory)) n = refl
read_by_entries (Err (fault.Records records.TooLarge)) n = refl
read_by_entries (Err (fault.Records records.Header)) n = refl
read_by_entries (Err (fault.Records (records.FieldCount row))) n = refl
read_by_entries (Err (fault.Records (records.Element row))) n = refl
read_by_entries (Err (fault.Records (records.Direction row))) n = refl
read_by_entries (Err (fault.Records (records.Vehicle row))) n = refl
read_by_entries (Err (fault.Records (records.Domain row why))) n = refl
read_by_entries (Err (fault.Records records.TooManyRows)) n = refl

pub write_by_entries : (answer : Result Shown RunFault) (n : ℕ)
    → failures_after_write (entries_of answer) n ≡ failures_after_write answer n
write_by_entries (Ok shown) n = refl
write_by_entries (Err fault.VehicleRange) n = refl
write_by_entries (Err fault.YearRange) n = refl
write_by_entries (Err fault.NoElement) n = refl
write_by_entries (Err (fault.WriteFault m)) n = refl
write_by_entries (Err (fault.NoMemory m)) n = refl
write_by_entries (Err (fault.Records why)) n = refl
