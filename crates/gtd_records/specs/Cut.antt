-- Where a text of comma-separated values may be cut: between two of its records; what a line of it is; and how the rows of a
-- part are counted in the whole.
use Rattle.std.specs.Prelude.{◌≡◌, ◌≤◌, List, [], ◌∷◌, ℕ, ◌+◌, ◌==◌, ◌||◌, Bool, false, length}
use Rattle.std.specs.List.{list_any}
use Rattle.csv.specs.Machine.{step}
use Rattle.csv.specs.Reading.{default_config, records, strip_bom}
use Rattle.csv.specs.declared.parser.State.{State}
use Rattle.csv.specs.declared.parser.State.TheVariants.{StartRecord}
use Rattle.gtd_records.specs.File.{header}
use Rattle.gtd_rows.specs.Table.{IsBetween}
use Rattle.gtd_records.specs.declared.fault.RecordFault.{RecordFault}
use Rattle.gtd_records.specs.declared.fault.RecordFault.TheVariants as fault
use Rattle.gtd_rows.specs.declared.vehicles.Version.{Version}

-- the state that bytes lead to, from a state
unfoldable pub state_after : State → List ℕ → State
state_after s [] = s
state_after s (c ∷ rest) = state_after (step default_config s c).0 rest

-- a byte that ends a line: CR or LF
abbrev pub is_line_end : ℕ → Bool
is_line_end byte = (byte == 13) || (byte == 10)

-- no byte of the text ends a line
abbrev pub IsOnOneLine : List ℕ → Type 0
IsOnOneLine text = list_any is_line_end text ≡ false

-- The bytes before a file's rows: the line of the header with its end, and before it empty lines or a byte order mark, if
-- there are any. So their only record is the header, and they end between two records.
pub record IsFront (v : Version) (front : List ℕ) : Type 0 where
  pub long : 3 ≤ length front
  pub is_header : records default_config (strip_bom front) ≡ header v ∷ []
  pub ends : IsBetween (state_after StartRecord (strip_bom front))

-- the fault of a row, if so many rows come before the part
abbrev pub counted_on : ℕ → RecordFault → RecordFault
counted_on before (fault.FieldCount row) = fault.FieldCount (before + row)
counted_on before (fault.Element row) = fault.Element (before + row)
counted_on before (fault.Direction row) = fault.Direction (before + row)
counted_on before (fault.Vehicle row) = fault.Vehicle (before + row)
counted_on before (fault.Domain row why) = fault.Domain (before + row) why
counted_on before why = why
