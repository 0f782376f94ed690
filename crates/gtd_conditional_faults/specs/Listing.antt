-- The list of all faults of a file.
use Rattle.std.specs.Prelude.{◌≡◌, ◌++◌, ℕ, List, [], ◌∷◌, codes, None}
use Rattle.gtd_conditional_elements.specs.declared.fault.ConditionsFault.{ConditionsFault}
use Rattle.gtd_conditional_elements.specs.declared.fault.ConditionsFault.TheVariants as tags
use Rattle.gtd_conditional_means.specs.declared.fault.MeansFault.{MeansFault}
use Rattle.gtd_conditional_means.specs.declared.fault.MeansFault.TheVariants as means
use Rattle.gtd_conditional_tags.specs.declared.fault.TagsFault.{TagsFault}
use Rattle.gtd_conditional_tags.specs.declared.fault.TagsFault.TheVariants as row
use Rattle.gtd_faults.specs.Expected.{expected_line}
use Rattle.gtd_faults.specs.Hints.{first_line}
use Rattle.gtd_faults.specs.Listing.{line_text}
use Rattle.gtd_faults.specs.Places.{IsLineAt, field_of}
use Rattle.gtd_faults.specs.Snippet.{IsOfField, IsOfHeader, IsOfRowAt, snippet_text}
use Rattle.gtd_faults.specs.declared.snippet.Snippet.{Snippet}
use Rattle.gtd_faults.specs.declared.snippet.Snippet.TheVariants as snippet
use Rattle.gtd_conditional_faults.specs.Accepted.{accepted}
use Rattle.gtd_conditional_faults.specs.Places.{place_of, row_of}
use Rattle.gtd_conditional_faults.specs.Words.{fault_text}
use Rattle.gtd_conditional_faults.specs.declared.fault.FileFault.{FileFault}
use Rattle.gtd_conditional_faults.specs.declared.fault.FileFault.TheVariants as fault

-- the first line of a file, and the header that is expected
abbrev pub IsNoHeader : List ℕ → List ℕ → Snippet → Type 0
IsNoHeader bytes header shown = IsOfHeader (first_line bytes) header None shown

-- What is shown below the line of a fault of a table with these bytes: the field in the column at fault; a row with too few or
-- too many fields; if the file has no header, its first line, and the header that is expected; otherwise nothing.
abbrev pub IsMeansSnippet : List ℕ → MeansFault → Snippet → Type 0
IsMeansSnippet bytes means.Header shown = IsNoHeader bytes (codes "kind,name,means") shown
IsMeansSnippet bytes (means.FieldCount row) shown = IsOfRowAt bytes row shown
IsMeansSnippet bytes (means.Kind row) shown = IsOfField (field_of bytes row 0) 0 shown
IsMeansSnippet bytes (means.Name row) shown = IsOfField (field_of bytes row 1) 0 shown
IsMeansSnippet bytes (means.Repeated row) shown = IsOfField (field_of bytes row 1) 0 shown
IsMeansSnippet bytes (means.Vehicle row) shown = IsOfField (field_of bytes row 2) 0 shown
IsMeansSnippet bytes (means.Value row) shown = IsOfField (field_of bytes row 2) 0 shown
IsMeansSnippet bytes means.TooManyRows shown = shown ≡ snippet.Nothing
IsMeansSnippet bytes means.TooLarge shown = shown ≡ snippet.Nothing

-- the same of a file of tags
abbrev pub IsRowSnippet : List ℕ → TagsFault → Snippet → Type 0
IsRowSnippet bytes row.Header shown = IsNoHeader bytes (codes "element,key,value") shown
IsRowSnippet bytes (row.FieldCount at) shown = IsOfRowAt bytes at shown
IsRowSnippet bytes (row.Element at) shown = IsOfField (field_of bytes at 0) 0 shown
IsRowSnippet bytes (row.Key at) shown = IsOfField (field_of bytes at 1) 0 shown
IsRowSnippet bytes (row.Repeated at) shown = IsOfField (field_of bytes at 1) 0 shown
IsRowSnippet bytes row.TooManyRows shown = shown ≡ snippet.Nothing
IsRowSnippet bytes row.TooLarge shown = shown ≡ snippet.Nothing

-- and of its values, around the place of their fault
abbrev pub IsTagsSnippet : List ℕ → ConditionsFault → Snippet → Type 0
IsTagsSnippet bytes (tags.Row why) shown = IsRowSnippet bytes why shown
IsTagsSnippet bytes (tags.Value row why) shown = IsOfField (field_of bytes row 2) (place_of why) shown
IsTagsSnippet bytes (tags.TooMany row) shown = IsOfField (field_of bytes row 2) 0 shown

abbrev pub IsSnippet : List ℕ → FileFault → Snippet → Type 0
IsSnippet bytes (fault.Means why) shown = IsMeansSnippet bytes why shown
IsSnippet bytes (fault.Tags why) shown = IsTagsSnippet bytes why shown

-- the lines below that of a fault: what is shown of the file, and what is accepted there
abbrev pub snippet_lines : FileFault → Snippet → List ℕ
snippet_lines why snippet = snippet_text snippet ++ expected_line (accepted why)

-- the lines of the faults of a file with these bytes, in order: for each its line, and those below it
abbrev pub AreLines : List ℕ → List ℕ → List FileFault → List ℕ → Type 0
AreLines path bytes [] text = text ≡ []
AreLines path bytes (why ∷ rest) text =
    (line : ℕ) × IsLineAt bytes (row_of why) line × (snippet : Snippet) × IsSnippet bytes why snippet × (after : List ℕ)
    × AreLines path bytes rest after × (text ≡ line_text path line (fault_text why) ++ snippet_lines why snippet ++ after)
