-- What a listing and a table hold so far.
use Rattle.std.specs.Prelude.{◌≡◌, ◌≤◌, ◌++◌, ℕ, Bool, true, false, List, [], ◌∷◌, length, string_bytes}
use Rattle.gtd_report.specs.Putting.{text_of}
use Rattle.gtd_mend.specs.Fields.{mended_table}
use Rattle.gtd_mend.specs.Lines.{table_lines}
use Rattle.gtd_mend.specs.Mended.{table_text}
use Rattle.gtd_mend.specs.Reading.{ReadRow, fields_in, separator_byte}
use Rattle.gtd_mend.specs.declared.listing.Listing.{Listing}
use Rattle.gtd_mend.specs.declared.separator.Separator.{Separator}
use Rattle.gtd_mend.specs.declared.table.Table.{Table}

-- the listing has these lines of changes, of the file with this name; no line is empty
pub record Lists (name : List ℕ) (lines : List (List ℕ)) (listing : Listing) : Type 0 where
  pub path : listing.path.now ≡ name
  pub text : string_bytes listing.text ≡ text_of lines
  pub count : listing.count ≡ length lines
  pub few : length lines ≤ length (text_of lines)

-- lines are added to a listing
abbrev pub AddsLines : (List ℕ → List (List ℕ)) → Listing → Listing → Type 0
AddsLines lines old new = (path : List ℕ) (before : List (List ℕ)) → Lists path before old → Lists path (before ++ lines path) new

-- there is no row
abbrev pub is_nil : List ReadRow → Bool
is_nil [] = true
is_nil (row ∷ rows) = false

-- the table holds these rows of the file with this name, which were separated like this
pub record Holds (name : List ℕ) (between : Separator) (rows : List ReadRow) (table : Table) : Type 0 where
  pub separator : table.separator ≡ between
  pub empty : table.empty ≡ is_nil rows
  pub mended : table.mended.items ≡ table_text 44 (mended_table (fields_in rows))
  pub written : table.written.items ≡ table_text (separator_byte between) (fields_in rows)
  pub listed : Lists name (table_lines name rows) table.listing
