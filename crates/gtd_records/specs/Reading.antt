-- Which answers are of the file, and which are of the device or of memory.
use Rattle.std.specs.Prelude.{ℕ, ◌+◌, Result, Ok, Err}
use Rattle.gtd_devices.specs.declared.whole.InputFault.{InputFault}
use Rattle.gtd_devices.specs.declared.whole.InputFault.TheVariants as input
use Rattle.gtd_records.specs.declared.fault.RecordFault.{RecordFault}
use Rattle.gtd_records.specs.declared.fault.RecordFault.TheVariants as fault

-- the fault of a reading, for a fault of the input
abbrev pub as_record_fault : InputFault → RecordFault
as_record_fault input.ReadFault = fault.ReadFault
as_record_fault input.TooLarge = fault.TooLarge
as_record_fault input.Endless = fault.Endless
as_record_fault input.NoMemory = fault.NoMemory

-- one more failure exactly if the answer is that the input failed
abbrev pub failures_after_records : {T : Type 0} → Result T RecordFault → ℕ → ℕ
failures_after_records (Ok found) count = count
failures_after_records (Err fault.ReadFault) count = count + 1
failures_after_records (Err _) count = count
