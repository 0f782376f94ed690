-- Faults as numbers.
use Rattle.std.specs.Prelude.{◌≡◌, ◌≤◌, ℕ, List, Err}
use Rattle.gtd_core.specs.declared.fault.Fault.{Fault}
use Rattle.gtd_core.specs.declared.fault.Fault.TheVariants as fault
use Rattle.gtd_core.specs.declared.fault.TextFault.{TextFault}
use Rattle.gtd_text.specs.Reading.{IsFault}
use Rattle.gtd_records.specs.File.{IsFile}
use Rattle.gtd_records.specs.declared.fault.RecordFault.{RecordFault}
use Rattle.gtd_records.specs.declared.fault.RecordFault.TheVariants as why
use Rattle.gtd_c.specs.declared.faults.FaultNumbers.{FaultNumbers}
use Rattle.gtd_c.specs.declared.faults.RecordFaultNumbers.{RecordFaultNumbers}

-- the number of a kind of fault of a text
abbrev pub fault_number : Fault → ℕ
fault_number fault.BadToken = 1
fault_number fault.Fuzzy = 2
fault_number fault.TooDeep = 3
fault_number fault.TooMany = 4
fault_number fault.Repeated = 5
fault_number fault.FieldRange = 6
fault_number fault.Negative = 7
fault_number fault.Unexpected = 8
fault_number fault.Incomplete = 9
fault_number fault.TooLongDuration = 10
fault_number fault.NoMemory = 11

-- the numbers of a fault of a text: its kind, and the bytes before it
abbrev pub text_fault_numbers : TextFault → FaultNumbers
text_fault_numbers found = record { kind = fault_number found.kind; place = found.place }

-- no fault of a text
abbrev pub no_text_fault : FaultNumbers
no_text_fault = record { kind = 0; place = 0 }

-- the numbers of a fault of a record file: its kind, its row or 0, and the fault of the row's domain or zeros
abbrev pub record_fault_numbers : RecordFault → RecordFaultNumbers
record_fault_numbers why.ReadFault = record { kind = 1; row = 0; text = no_text_fault }
record_fault_numbers why.TooLarge = record { kind = 2; row = 0; text = no_text_fault }
record_fault_numbers why.Header = record { kind = 3; row = 0; text = no_text_fault }
record_fault_numbers (why.FieldCount row) = record { kind = 4; row = row; text = no_text_fault }
record_fault_numbers (why.Element row) = record { kind = 5; row = row; text = no_text_fault }
record_fault_numbers (why.Direction row) = record { kind = 6; row = row; text = no_text_fault }
record_fault_numbers (why.Vehicle row) = record { kind = 7; row = row; text = no_text_fault }
record_fault_numbers (why.Domain row found) = record { kind = 8; row = row; text = text_fault_numbers found }
record_fault_numbers why.TooManyRows = record { kind = 9; row = 0; text = no_text_fault }
record_fault_numbers why.NoMemory = record { kind = 10; row = 0; text = no_text_fault }
record_fault_numbers why.Endless = record { kind = 11; row = 0; text = no_text_fault }

-- the numbers are those of the first fault of the text
pub record IsFirstFault (text : List ℕ) (numbers : FaultNumbers) : Type 0 where
  pub found : TextFault
  pub is_fault : IsFault text found
  pub numbered : numbers ≡ text_fault_numbers found

-- the numbers are those of the first fault of the file
pub record IsFirstRecordFault (bytes : List ℕ) (numbers : RecordFaultNumbers) : Type 0 where
  pub found : RecordFault
  pub is_fault : IsFile bytes (Err found)
  pub numbered : numbers ≡ record_fault_numbers found

-- the numbers of the kinds of faults of a text
abbrev pub IsFaultKind : ℕ → Type 0
IsFaultKind kind = (1 ≤ kind) × (kind ≤ 10)

-- the numbers of the kinds of faults of a record file
abbrev pub IsRecordFaultKind : ℕ → Type 0
IsRecordFaultKind kind = (2 ≤ kind) × (kind ≤ 9)
