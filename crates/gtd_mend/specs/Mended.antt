-- What a mended file is.
use Rattle.std.specs.Prelude.{◌≡◌, ◌⊎◌, ◌++◌, ℕ, true, List, [], ◌∷◌, flat_map, Option, Some, None, Ok, if◌then◌else◌}
use Rattle.csv.specs.Machine.{next_record}
use Rattle.csv.specs.Writing.{default_writer, row_text}
use Rattle.csv.specs.declared.writer.WriterBuilder.{WriterBuilder}
use Rattle.csv.specs.declared.parser.State.{State}
use Rattle.csv.specs.declared.parser.State.TheVariants.{StartRecord}
use Rattle.gtd_records.specs.Closing.{Restriction}
use Rattle.gtd_rows.specs.Columns.{Fields, is_word}
use Rattle.gtd_records.specs.File.{IsFile, header}
use Rattle.gtd_rows.specs.declared.vehicles.Version.{Version}
use Rattle.gtd_mend.specs.Decoding.{changes_by_mark, text_of_file}
use Rattle.gtd_mend.specs.Fields.{mended_row, mended_table}
use Rattle.gtd_mend.specs.Lines.{file_lines, table_lines}
use Rattle.gtd_mend.specs.Reading.{AreRead, ReadRow, fields_in, separated_by, separator_byte}
use Rattle.gtd_mend.specs.declared.change.FileChange.{FileChange}
use Rattle.gtd_mend.specs.declared.change.FileChange.TheVariants.{Separators, Layout}
use Rattle.gtd_mend.specs.declared.separator.Separator.{Separator}
use Rattle.gtd_mend.specs.declared.separator.Separator.TheVariants.{Comma, Semicolon, Tab}

-- the file is accepted
abbrev pub IsAccepted : List ℕ → Type 0
IsAccepted bytes = (found : List Restriction) × IsFile bytes (Ok found)

-- how rows are written with a byte between their fields: each ends in LF, and a field is in quotes only if it needs them
abbrev pub writer_of : ℕ → WriterBuilder
writer_of byte = record default_writer { delimiter = byte }

abbrev pub table_text : ℕ → List Fields → List ℕ
table_text byte rows = flat_map (row_text (writer_of byte)) rows

-- the first row of a text, read with this separator and mended, is a header
pub record HasHeader (separator : Separator) (text : List ℕ) : Type 0 where
  pub version : Version
  pub fields : Fields
  pub state : State
  pub rest : List ℕ
  pub read : next_record (separated_by separator) StartRecord [] [] text ≡ Some (fields, state, rest)
  pub is_header : mended_row true fields ≡ header version

-- the change of separators, if they are not commas
abbrev pub separators_changed : Separator → List FileChange
separators_changed Comma = []
separators_changed Semicolon = Separators ∷ []
separators_changed Tab = Separators ∷ []

-- the change of the layout, if the text is not that of its rows
abbrev pub layout_changed : List ℕ → List ℕ → List FileChange
layout_changed text written = if is_word text written then [] else Layout ∷ []

-- The rows of a text in order, each mended, with commas between their fields; and the lines of all changes.
pub record IsRewritten (path : List ℕ) (separator : Separator) (marks : List FileChange) (text mended : List ℕ)
    (lines : List (List ℕ)) : Type 0 where
  pub rows : List ReadRow
  pub read : AreRead (separated_by separator) 1 text rows
  pub written : mended ≡ table_text 44 (mended_table (fields_in rows))
  pub listed : lines
      ≡ file_lines path (marks
      ++ (separators_changed separator ++ layout_changed text (table_text (separator_byte separator) (fields_in rows))))
      ++ table_lines path rows

-- the bytes as they are, and no change
pub record IsSame (bytes mended : List ℕ) (lines : List (List ℕ)) : Type 0 where
  pub same : mended ≡ bytes
  pub none : lines ≡ []

-- with some separator the text has a header, and it is written anew
pub record IsTable (path : List ℕ) (marks : List FileChange) (text mended : List ℕ) (lines : List (List ℕ)) : Type 0 where
  pub separator : Separator
  pub has_header : HasHeader separator text
  pub rewritten : IsRewritten path separator marks text mended lines

-- A text that has a header is written anew. The file is left as it is if its text has none.
abbrev pub IsOfText : List ℕ → List ℕ → List FileChange → List ℕ → List ℕ → List (List ℕ) → Type 0
IsOfText path bytes marks text mended lines =
    IsTable path marks text mended lines
    ⊎ (((separator : Separator) → HasHeader separator text → ⊥) × IsSame bytes mended lines)

-- the same of the text of a file; the file is left as it is if it has no text
abbrev pub IsOfFile : List ℕ → List ℕ → List FileChange → Option (List ℕ) → List ℕ → List (List ℕ) → Type 0
IsOfFile path bytes marks None mended lines = IsSame bytes mended lines
IsOfFile path bytes marks (Some text) mended lines = IsOfText path bytes marks text mended lines

-- The mended file of one with these bytes, and the lines of its changes. An accepted file is left as it is.
abbrev pub IsMended : List ℕ → List ℕ → List ℕ → List (List ℕ) → Type 0
IsMended path bytes mended lines =
    (IsAccepted bytes × IsSame bytes mended lines)
    ⊎ ((IsAccepted bytes → ⊥) × IsOfFile path bytes (changes_by_mark bytes) (text_of_file bytes) mended lines)
