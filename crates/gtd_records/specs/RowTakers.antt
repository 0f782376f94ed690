-- What reading a record file and listing its faults make of its rows.
use Rattle.std.specs.Prelude.{◌≡◌, ◌≢◌, ℕ, Bool, true, false, [], ◌∷◌, ◌++◌, Result, Ok, Err}
use Rattle.gtd_records.specs.Closing.{Restriction}
use Rattle.gtd_rows.specs.Columns.{Fields}
use Rattle.gtd_records.specs.ComputedRow.{IsRow}
use Rattle.gtd_records.specs.Faults.{with_fault}
use Rattle.gtd_records.specs.File.{header}
use Rattle.gtd_records.specs.declared.fault.RecordFault.{RecordFault}
use Rattle.gtd_records.specs.declared.faults.FaultList.{FaultList}
use Rattle.gtd_records.specs.declared.file.Reading.{Reading}
use Rattle.gtd_rows.specs.declared.vehicles.Version.{Version}

-- the first record is the header of the version, or of none
abbrev pub IsHeader : Fields → Version → Bool → Type 0
IsHeader first v true = first ≡ header v
IsHeader first v false = (w : Version) → first ≢ header w

abbrev pub BeginsReading : Reading → Fields → Reading → Bool → Type 0
BeginsReading old first new is = IsHeader first new.rows.version is × (new.found.items ≡ old.found.items)

abbrev pub BeginsFaults : FaultList → Fields → FaultList → Bool → Type 0
BeginsFaults old first new is = IsHeader first new.rows.version is × (new.faults.items ≡ old.faults.items)

-- one more record, or the first fault
abbrev pub Reads : Reading → ℕ → Fields → Reading → Bool → Type 0
Reads old number row new true =
    (new.rows.version ≡ old.rows.version)
    × ((r : Restriction) × IsRow old.rows.version number row (Ok r) × (new.found.items ≡ old.found.items ++ (r ∷ [])))
Reads old number row new false = IsRow old.rows.version number row (Err new.fault)

-- the fault of the row, if it has one, is listed
abbrev pub ListsFault : FaultList → ℕ → Fields → FaultList → Bool → Type 0
ListsFault old number row new false = ⊥
ListsFault old number row new true =
    (new.rows.version ≡ old.rows.version)
    × ((a : Result Restriction RecordFault) × IsRow old.rows.version number row a
    × (new.faults.items ≡ old.faults.items ++ with_fault a []))
