-- The list of what the rows of a file say more than once, in words.
use Rattle.std.specs.Prelude.{◌≡◌, ◌<◌, ◌≤◌, ◌++◌, ℕ, List, [], ◌∷◌, ⊤, codes, decimal, drop, length}
use Rattle.csv.specs.Reading.{default_config, records, strip_bom}
use Rattle.gtd_faults.specs.Listing.{line_text}
use Rattle.gtd_lines.specs.Lines.{IsLine}
use Rattle.gtd_records.specs.Closing.{Restriction}
use Rattle.gtd_repeats.specs.Findings.{AreFindings}
use Rattle.gtd_repeats.specs.declared.findings.Finding.{Finding}
use Rattle.gtd_repeats.specs.declared.findings.Finding.TheVariants.{SameRow, WithinRow, SameMeaning}

-- the row of which something is said
abbrev pub row_of : Finding → ℕ
row_of (SameRow row of) = row
row_of (WithinRow row of) = row
row_of (SameMeaning row of) = row

-- what is said of it
abbrev pub finding_text : Finding → List ℕ
finding_text (SameRow row of) = codes "row " ++ decimal row ++ codes ": same as row " ++ decimal of
finding_text (WithinRow row of) = codes "row " ++ decimal row ++ codes ": within row " ++ decimal of
finding_text (SameMeaning row of) = codes "row " ++ decimal row ++ codes ": same domain as row " ++ decimal of

-- the line of it
abbrev pub finding_line : List ℕ → ℕ → Finding → List ℕ
finding_line path line finding = line_text path line (finding_text finding)

-- the lines of a file with these bytes, in order, each with the line of the file on which its row begins
abbrev pub AreFindingLines : List ℕ → List ℕ → List Finding → List ℕ → Type 0
AreFindingLines path bytes [] text = text ≡ []
AreFindingLines path bytes (finding ∷ rest) text =
    (line : ℕ) × IsLine bytes (row_of finding) line × (after : List ℕ)
    × AreFindingLines path bytes rest after × (text ≡ finding_line path line finding ++ after)

-- the rows of a file with these bytes
abbrev pub row_count : List ℕ → ℕ
row_count bytes = length (drop 1 (records default_config (strip_bom bytes)))

-- each is about one of so many rows
abbrev pub AreOfRows : ℕ → List Finding → Type 0
AreOfRows count [] = ⊤
AreOfRows count (finding ∷ rest) = (0 < row_of finding) × (row_of finding ≤ count) × AreOfRows count rest

-- The list of a file with these bytes and these restrictions, which has so many lines.
pub record IsListing (path bytes : List ℕ) (found : List Restriction) (count : ℕ) (text : List ℕ) : Type 0 where
  pub findings : List Finding
  pub all : AreFindings found findings
  pub counted : count ≡ length findings
  pub lines : AreFindingLines path bytes findings text
