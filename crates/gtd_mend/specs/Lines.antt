-- The lines of changes. A line has its end: the LF is its last byte.
use Rattle.std.specs.Prelude.{◌+◌, ◌++◌, ℕ, Bool, true, false, List, [], ◌∷◌, codes, decimal, map, flat_map}
use Rattle.gtd_faults.specs.Listing.{line_text}
use Rattle.gtd_rows.specs.Columns.{Fields}
use Rattle.gtd_mend.specs.Fields.{changes_of, content_of}
use Rattle.gtd_mend.specs.Reading.{ReadRow}
use Rattle.gtd_mend.specs.declared.change.FieldChange.{FieldChange}
use Rattle.gtd_mend.specs.declared.change.FieldChange.TheVariants as field
use Rattle.gtd_mend.specs.declared.change.FileChange.{FileChange}
use Rattle.gtd_mend.specs.declared.change.FileChange.TheVariants as file

abbrev pub file_change_name : FileChange → List ℕ
file_change_name file.Utf16 = codes "UTF-16"
file_change_name file.ByteOrderMark = codes "byte order mark"
file_change_name file.Separators = codes "separators"
file_change_name file.Layout = codes "quotes or line ends"

abbrev pub field_change_name : FieldChange → List ℕ
field_change_name field.Spaces = codes "spaces"
field_change_name field.Quotes = codes "quotes"
field_change_name field.Capitals = codes "capitals"
field_change_name field.Decimals = codes "decimals"
field_change_name field.Dashes = codes "dashes"

-- the line of a change of the whole file: it is told of the first line
abbrev pub file_line : List ℕ → FileChange → List ℕ
file_line path change = line_text path 1 (file_change_name change)

abbrev pub file_lines : List ℕ → List FileChange → List (List ℕ)
file_lines path changes = map (file_line path) changes

-- the line of a change of a field: the line on which its row begins, and its number, from 1
abbrev pub field_line : List ℕ → ℕ → ℕ → FieldChange → List ℕ
field_line path line number change =
    line_text path line (codes "field " ++ decimal number ++ codes ": " ++ field_change_name change)

abbrev pub field_lines : List ℕ → ℕ → ℕ → List FieldChange → List (List ℕ)
field_lines path line number changes = map (field_line path line number) changes

-- the lines of fields, of which the first stands in this column
abbrev pub lines_from : List ℕ → ℕ → Bool → ℕ → Fields → List (List ℕ)
lines_from path line head column [] = []
lines_from path line head column (field ∷ fields) =
    field_lines path line (column + 1) (changes_of (content_of head column) field)
    ++ lines_from path line head (column + 1) fields

-- the lines of a row
abbrev pub row_lines : List ℕ → Bool → ReadRow → List (List ℕ)
row_lines path head row = lines_from path row.line head 0 row.fields

-- the lines of the rows of a file: the header, and the others
abbrev pub table_lines : List ℕ → List ReadRow → List (List ℕ)
table_lines path [] = []
table_lines path (header ∷ rows) = row_lines path true header ++ flat_map (row_lines path false) rows
