-- The list of all faults of a file of hours, in words.
use Rattle.std.specs.Prelude.{◌≡◌, ◌+◌, ◌++◌, ℕ, List, [], ◌∷◌, codes, decimal, Option, Some, None}
use Rattle.gtd_core.specs.Limits.{most_rows}
use Rattle.gtd_faults.specs.Snippet.{IsOfField, IsOfHeader, IsOfRowAt, snippet_text}
use Rattle.gtd_faults.specs.Expected.{accepted_bytes, accepted_count, accepted_direction, accepted_element, accepted_rows}
use Rattle.gtd_faults.specs.Expected.{accepted_types}
use Rattle.gtd_faults.specs.Hints.{first_line}
use Rattle.gtd_faults.specs.Listing.{line_text}
use Rattle.gtd_faults.specs.Places.{IsLineAt, field_of}
use Rattle.gtd_faults.specs.declared.snippet.Snippet.{Snippet}
use Rattle.gtd_faults.specs.declared.snippet.Snippet.TheVariants as snippet
use Rattle.gtd_hours_faults.specs.Accepted as hours
use Rattle.gtd_hours_faults.specs.Accepted.{Told, told_line}
use Rattle.gtd_hours_faults.specs.Words as words
use Rattle.gtd_hours_faults.specs.Words.{place_in}
use Rattle.gtd_hours_file.specs.declared.fault.HoursFileFault.{HoursFileFault}
use Rattle.gtd_hours_file.specs.declared.fault.HoursFileFault.TheVariants as fault

-- the words of a fault: its row, if it has one; its kind; and the words of a fault of hours
abbrev pub fault_text : HoursFileFault → List ℕ
fault_text fault.TooLarge = codes "TooLarge"
fault_text fault.Header = codes "Header"
fault_text (fault.FieldCount row) = codes "row " ++ decimal row ++ codes ": FieldCount"
fault_text (fault.Element row) = codes "row " ++ decimal row ++ codes ": Element"
fault_text (fault.Direction row) = codes "row " ++ decimal row ++ codes ": Direction"
fault_text (fault.Vehicle row) = codes "row " ++ decimal row ++ codes ": Vehicle"
fault_text (fault.Hours row why) = codes "row " ++ (decimal row ++ (codes ": Hours " ++ words.fault_text (place_in why) why))
fault_text (fault.TooMany row needed) = codes "row " ++ decimal row ++ codes ": Hours TooMany at 0"
fault_text fault.TooManyRows = codes "row 65537: TooManyRows"

-- the header that is expected
abbrev pub expected_text : List ℕ
expected_text = codes "element,direction,vehicles,hours"

-- What is shown below the line of a fault of a file with these bytes: the field in the column at fault, around the place in
-- a text of hours or from its first byte on; a row with too few or too many fields; if the file has no header, its first line,
-- and the header that is expected; otherwise nothing.
abbrev pub IsSnippet : List ℕ → HoursFileFault → Snippet → Type 0
IsSnippet bytes (fault.FieldCount row) shown = IsOfRowAt bytes row shown
IsSnippet bytes (fault.Element row) shown = IsOfField (field_of bytes row 0) 0 shown
IsSnippet bytes (fault.Direction row) shown = IsOfField (field_of bytes row 1) 0 shown
IsSnippet bytes (fault.Vehicle row) shown = IsOfField (field_of bytes row 2) 0 shown
IsSnippet bytes (fault.Hours row why) shown = IsOfField (field_of bytes row 3) (place_in why) shown
IsSnippet bytes (fault.TooMany row needed) shown = IsOfField (field_of bytes row 3) 0 shown
IsSnippet bytes fault.Header shown = IsOfHeader (first_line bytes) expected_text None shown
IsSnippet bytes why shown = shown ≡ snippet.Nothing

-- What a file may have where this fault is. The header that is expected is shown below the first line.
abbrev pub accepted : HoursFileFault → Told
accepted (fault.FieldCount row) = Told.words accepted_count
accepted (fault.Element row) = Told.words accepted_element
accepted (fault.Direction row) = Told.words accepted_direction
accepted (fault.Vehicle row) = Told.words accepted_types
accepted (fault.Hours row why) = Told.words (hours.accepted why)
accepted (fault.TooMany row needed) = Told.fewer needed
accepted fault.TooManyRows = Told.words accepted_rows
accepted fault.TooLarge = Told.words accepted_bytes
accepted fault.Header = Told.nothing

-- the lines below that of a fault: what is shown of the file, and what is accepted there
abbrev pub snippet_lines : HoursFileFault → Snippet → List ℕ
snippet_lines why snippet = snippet_text snippet ++ told_line (accepted why)

-- the row that a fault is of, if it is of one; `TooManyRows` is of the first row too many
abbrev pub row_of : HoursFileFault → Option ℕ
row_of (fault.FieldCount row) = Some row
row_of (fault.Element row) = Some row
row_of (fault.Direction row) = Some row
row_of (fault.Vehicle row) = Some row
row_of (fault.Hours row why) = Some row
row_of (fault.TooMany row needed) = Some row
row_of fault.TooManyRows = Some (most_rows + 1)
row_of why = None

-- the lines of the faults of a file with these bytes, in order: for each its line, and those below it
abbrev pub AreLines : List ℕ → List ℕ → List HoursFileFault → List ℕ → Type 0
AreLines path bytes [] text = text ≡ []
AreLines path bytes (why ∷ rest) text =
    (line : ℕ) × IsLineAt bytes (row_of why) line × (snippet : Snippet) × IsSnippet bytes why snippet × (after : List ℕ)
    × AreLines path bytes rest after × (text ≡ line_text path line (fault_text why) ++ snippet_lines why snippet ++ after)
