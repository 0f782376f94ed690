-- Where the records of a file begin, and what their fields hold. How a text is cut into records and fields is defined by `csv`.
use Rattle.std.specs.Prelude.{ℕ, zero, suc, List, [], ◌∷◌, Option, None}
use Rattle.csv.specs.Reading.{default_config, records, strip_bom}
use Rattle.csv.specs.Records.{field_at}
use Rattle.gtd_rows.specs.Columns.{Fields}
use Rattle.gtd_lines.specs.Lines.{from_record, left_after}
pub use Rattle.gtd_lines.specs.Lines.{IsLine, IsLineAt, is_line_feed}

-- a file's bytes from the first byte of the record with this number on
abbrev pub row_text : List ℕ → ℕ → List ℕ
row_text bytes number = from_record (left_after number (strip_bom bytes)).1

-- the field in a column of the record with this number, both counted from 0, if there is one
abbrev pub field_in : List Fields → ℕ → ℕ → Option (List ℕ)
field_in [] number column = None
field_in (fields ∷ rows) zero column = field_at fields column
field_in (fields ∷ rows) (suc number) column = field_in rows number column

-- the same of a file's bytes
abbrev pub field_of : List ℕ → ℕ → ℕ → Option (List ℕ)
field_of bytes number column = field_in (records default_config (strip_bom bytes)) number column
