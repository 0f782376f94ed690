-- The names of the faults of record files, as fault lines show them.
use Rattle.std.specs.Prelude.{ℕ, List, codes}
use Rattle.gtd_records.specs.declared.fault.RecordFault.{RecordFault}
use Rattle.gtd_records.specs.declared.fault.RecordFault.TheVariants as fault

abbrev pub record_fault_name : RecordFault → List ℕ
record_fault_name fault.ReadFault = codes "ReadFault"
record_fault_name fault.TooLarge = codes "TooLarge"
record_fault_name fault.Header = codes "Header"
record_fault_name (fault.FieldCount row) = codes "FieldCount"
record_fault_name (fault.Element row) = codes "Element"
record_fault_name (fault.Direction row) = codes "Direction"
record_fault_name (fault.Vehicle row) = codes "Vehicle"
record_fault_name (fault.Domain row why) = codes "Domain"
record_fault_name fault.TooManyRows = codes "TooManyRows"
record_fault_name fault.NoMemory = codes "NoMemory"
record_fault_name fault.Endless = codes "Endless"
