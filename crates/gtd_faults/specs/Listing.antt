-- The list of a file's faults and warnings, in words.
use Rattle.std.specs.Prelude.{◌≡◌, ◌+◌, ◌++◌, ℕ, List, [], ◌∷◌, codes, decimal, length}
use Rattle.std.specs.Prelude.{Option, Some, None}
use Rattle.gtd_core.specs.Limits.{most_rows}
use Rattle.gtd_core.specs.Names.{fault_name}
use Rattle.gtd_records.specs.declared.fault.RecordFault.{RecordFault}
use Rattle.gtd_records.specs.declared.fault.RecordFault.TheVariants as fault
use Rattle.gtd_records.specs.Faults.{AreFileFaults}
use Rattle.gtd_warnings.specs.declared.file.Asked.{Asked}
use Rattle.gtd_faults.specs.Snippet.{IsSnippet, snippet_text, byte_at}
use Rattle.gtd_faults.specs.Doubts.{AreDoubts}
use Rattle.gtd_faults.specs.Expected.{accepted_at, expected_line}
use Rattle.gtd_faults.specs.Places.{IsLineAt}
use Rattle.gtd_faults.specs.Printable.{printable}
use Rattle.gtd_faults.specs.declared.snippet.Snippet.{Snippet}

-- the words of a fault: its row, if it has one; its kind; and for a fault of a domain, the place
abbrev pub fault_text : RecordFault → List ℕ
fault_text fault.ReadFault = codes "ReadFault"
fault_text fault.TooLarge = codes "TooLarge"
fault_text fault.Header = codes "Header"
fault_text (fault.FieldCount row) = codes "row " ++ decimal row ++ codes ": FieldCount"
fault_text (fault.Element row) = codes "row " ++ decimal row ++ codes ": Element"
fault_text (fault.Direction row) = codes "row " ++ decimal row ++ codes ": Direction"
fault_text (fault.Vehicle row) = codes "row " ++ decimal row ++ codes ": Vehicle"
fault_text (fault.Domain row why) =
    codes "row " ++ decimal row ++ codes ": Domain " ++ fault_name why.kind ++ codes " at " ++ decimal why.place
fault_text fault.TooManyRows = codes "row 65537: TooManyRows"
fault_text fault.NoMemory = codes "NoMemory"
fault_text fault.Endless = codes "Endless"

-- a line of the list, with its end: the file's path, the line of the file on which a row begins, and what is said of it
abbrev pub line_text : List ℕ → ℕ → List ℕ → List ℕ
line_text path line words = printable path ++ codes ":" ++ decimal line ++ codes ": " ++ words ++ codes "\n"

-- the line of a fault
abbrev pub fault_line : List ℕ → ℕ → RecordFault → List ℕ
fault_line path line why = line_text path line (fault_text why)

-- the row that a fault is of, if it is of one; `TooManyRows` is of the first row too many
abbrev pub row_of : RecordFault → Option ℕ
row_of (fault.FieldCount row) = Some row
row_of (fault.Element row) = Some row
row_of (fault.Direction row) = Some row
row_of (fault.Vehicle row) = Some row
row_of (fault.Domain row why) = Some row
row_of fault.TooManyRows = Some (most_rows + 1)
row_of why = None

-- the lines below that of a fault: what is shown of the file, and what is accepted there
abbrev pub snippet_lines : RecordFault → Snippet → List ℕ
snippet_lines why snippet = snippet_text snippet ++ expected_line (accepted_at why (byte_at snippet))

-- The lines of the faults of a file with these bytes, in order: for each its line, and those below it.
abbrev pub AreLines : List ℕ → List ℕ → List RecordFault → List ℕ → Type 0
AreLines path bytes [] text = text ≡ []
AreLines path bytes (why ∷ rest) text =
    (line : ℕ) × IsLineAt bytes (row_of why) line × (snippet : Snippet) × IsSnippet bytes why snippet × (after : List ℕ)
    × AreLines path bytes rest after × (text ≡ fault_line path line why ++ snippet_lines why snippet ++ after)

-- what is added for a file's warnings: their lines if they are asked for, otherwise nothing
abbrev pub IsWarned : Option Asked → List ℕ → List ℕ → List ℕ → Type 0
IsWarned None path bytes text = text ≡ []
IsWarned (Some asked) path bytes text = AreDoubts path asked bytes text

-- the list of a file with these bytes: the lines of all its faults, of which there are so many, and then of its warnings
pub record IsList (path bytes : List ℕ) (asked : Option Asked) (count : ℕ) (text : List ℕ) : Type 0 where
  pub faults : List RecordFault
  pub all : AreFileFaults bytes faults
  pub counted : count ≡ length faults
  pub first : List ℕ
  pub lines : AreLines path bytes faults first
  pub last : List ℕ
  pub warned : IsWarned asked path bytes last
  pub whole : text ≡ first ++ last
