-- Rows of a file, and at which of them a walk over them stands.
use Rattle.std.specs.Prelude.{◌≡◌, ℕ, Bool, true, false, List, [], ◌∷◌, Some, drop}
use Rattle.std.specs.Borrow.{Bor}
use Rattle.csv.specs.Reading.{default_config, records, strip_bom}
use Rattle.csv.specs.Records.{fields_of}
use Rattle.csv.specs.declared.reader.Reader.{Reader}
use Rattle.gtd_rows.specs.Columns.{Fields}
use Rattle.gtd_rows.specs.Table.{HasLeft}
use Rattle.gtd_lines.specs.Cut.{IsPlace}
use Rattle.gtd_faults.specs.declared.places.Rows.{Rows}
use Rattle.gtd_faults.specs.declared.row.Row.{Row}

-- the row has its number among the records of these bytes, where the header is record 0, and begins at its place
pub record IsRowOf (bytes : List ℕ) (row : Row) : Type 0 where
  pub text : row.bytes.now ≡ bytes
  pub rest : List Fields
  pub given : drop row.number (records default_config (strip_bom bytes)) ≡ fields_of row.fields.now ∷ rest
  pub place : IsPlace bytes row.number row.place

-- a reader gave the record with this number, which has these fields, and has those after it left; or there is none
abbrev pub HasGiven : Bool → Reader (Bor (List ℕ)) → Fields → ℕ → List Fields → Type 0
HasGiven true reader fields number text =
    (rest : List Fields) × (drop number text ≡ fields ∷ rest) × HasLeft (λ (source : Bor (List ℕ)). Some source.now) reader rest
HasGiven false reader fields number text = drop number text ≡ []

-- the rows are those of these bytes, and stand at the record with this number, whether there is one or not
pub record StandsAt (bytes : List ℕ) (number : ℕ) (rows : Rows) : Type 0 where
  pub text : rows.bytes.now ≡ bytes
  pub at : rows.number ≡ number
  pub given : HasGiven rows.found rows.reader (fields_of rows.row) number (records default_config (strip_bom bytes))
  pub place : IsPlace bytes number rows.place
