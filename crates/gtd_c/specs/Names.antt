-- Names of faults that are written into a buffer of the caller.
use Rattle.std.specs.Prelude.{◌≡◌, ℕ, List}
use Rattle.gtd_core.specs.Names.{fault_name}
use Rattle.gtd_core.specs.declared.fault.Fault.{Fault}
use Rattle.gtd_records.specs.RecordFaultNames.{record_fault_name}
use Rattle.gtd_records.specs.declared.fault.RecordFault.{RecordFault}
use Rattle.gtd_c.specs.Faults.{fault_number, record_fault_numbers}
use Rattle.gtd_handles.specs.Writing.{IsWritten}

-- the name of the fault of a text with this number
pub record IsFaultName (kind answer : ℕ) (old new : List ℕ) (count : ℕ) : Type 0 where
  pub fault : Fault
  pub numbered : fault_number fault ≡ kind
  pub written : IsWritten (fault_name fault) answer old new count

-- the name of a fault of a record file with this number
pub record IsRecordFaultName (kind answer : ℕ) (old new : List ℕ) (count : ℕ) : Type 0 where
  pub fault : RecordFault
  pub numbered : (record_fault_numbers fault).kind ≡ kind
  pub written : IsWritten (record_fault_name fault) answer old new count
