-- All faults of a record file: each row that stands for no restriction, by its first fault.
use Rattle.std.specs.Prelude.{◌≡◌, ◌<◌, ◌≤◌, ◌⊎◌, ℕ, ◌+◌, List, [], ◌∷◌, ◌++◌, length, slice_index_or, Result, Ok, Err}
use Rattle.csv.specs.Reading.{default_config, records, strip_bom}
use Rattle.gtd_core.specs.Limits.{most_file_bytes, most_rows}
use Rattle.gtd_records.specs.ComputedRow.{IsRow}
use Rattle.gtd_records.specs.File.{header}
use Rattle.gtd_records.specs.Closing.{Restriction}
use Rattle.gtd_rows.specs.Columns.{Fields}
use Rattle.gtd_records.specs.declared.fault.RecordFault.{RecordFault}
use Rattle.gtd_records.specs.declared.fault.RecordFault.TheVariants as fault
use Rattle.gtd_rows.specs.declared.vehicles.Version.{Version}

-- the fault of a row, if it has one, and those after it
abbrev pub with_fault : Result Restriction RecordFault → List RecordFault → List RecordFault
with_fault (Ok found) rest = rest
with_fault (Err why) rest = why ∷ rest

-- the faults of the rows that are at fault, in their order, if the first row has this number
abbrev pub AreRowFaults : Version → ℕ → List Fields → List RecordFault → Type 0
AreRowFaults v number [] faults = faults ≡ []
AreRowFaults v number (row ∷ rows) faults =
    (answer : Result Restriction RecordFault) × (rest : List RecordFault)
    × IsRow v number row answer × AreRowFaults v (number + 1) rows rest × (faults ≡ with_fault answer rest)

-- there is a row too many: the faults of the rows before it, and then `TooManyRows`
pub record AreTooMany (v : Version) (rows : List Fields) (faults : List RecordFault) : Type 0 where
  pub before : List Fields
  pub row : Fields
  pub after : List Fields
  pub split : rows ≡ before ++ row ∷ after
  pub many : length before ≡ most_rows
  pub listed : List RecordFault
  pub each : AreRowFaults v 1 before listed
  pub whole : faults ≡ listed ++ (fault.TooManyRows ∷ [])

-- the faults of the rows after the header
abbrev pub AreFaults : Version → List Fields → List RecordFault → Type 0
AreFaults v rows faults = ((length rows ≤ most_rows) × AreRowFaults v 1 rows faults) ⊎ AreTooMany v rows faults

-- the faults of the records of a text
abbrev pub AreTableFaults : List Fields → List RecordFault → Type 0
AreTableFaults text faults =
    ((v : Version) × (rows : List Fields) × (text ≡ header v ∷ rows) × AreFaults v rows faults)
    ⊎ (((v : Version) (rows : List Fields) → text ≡ header v ∷ rows → ⊥) × (faults ≡ fault.Header ∷ []))

-- the faults of a file's bytes
abbrev pub AreFileFaults : List ℕ → List RecordFault → Type 0
AreFileFaults bytes faults =
    ((length bytes ≤ most_file_bytes) × AreTableFaults (records default_config (strip_bom bytes)) faults)
    ⊎ ((most_file_bytes < length bytes) × (faults ≡ fault.TooLarge ∷ []))

-- the row that a fault is of
abbrev pub row_number : RecordFault → ℕ
row_number (fault.FieldCount row) = row
row_number (fault.Element row) = row
row_number (fault.Direction row) = row
row_number (fault.Vehicle row) = row
row_number (fault.Domain row why) = row
row_number _ = 0

-- the row with this number stands for no restriction
pub record IsFaultyRow (v : Version) (rows : List Fields) (number : ℕ) : Type 0 where
  pub before : ℕ
  pub is : number ≡ before + 1
  pub within : before < length rows
  pub row : Fields
  pub stands : slice_index_or rows before row ≡ row
  pub never : (r : Restriction) → IsRow v number row (Ok r) → ⊥
