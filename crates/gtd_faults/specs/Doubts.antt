-- The lines of warnings.
use Rattle.std.specs.Prelude.{◌≡◌, ◌-◌, ◌++◌, ◌==◌, ℕ, suc, List, [], ◌∷◌, Option, Some, None, codes, decimal}
use Rattle.std.specs.Prelude.{if◌then◌else◌}
use Rattle.gtd_mistakes.specs.declared.told.Told.{Told}
use Rattle.gtd_warnings.specs.Codes.{AreLoneOfFile}
use Rattle.gtd_warnings.specs.RowsTold.{AreToldOfFile}
use Rattle.gtd_warnings.specs.Sentences.{doubt_text, lone_text, perhaps_line}
use Rattle.gtd_warnings.specs.declared.codes.LoneCode.{LoneCode}
use Rattle.gtd_warnings.specs.declared.file.Asked.{Asked}
use Rattle.gtd_faults.specs.Snippet.{IsOfField, snippet_text}
use Rattle.gtd_faults.specs.Places.{IsLine, field_of}
use Rattle.gtd_faults.specs.Printable.{printable}
use Rattle.gtd_faults.specs.declared.snippet.Snippet.{Snippet}

-- the bytes of a text before the parenthesis that opens after so many others: all of them, if there is none
abbrev pub opening : ℕ → List ℕ → ℕ
opening before [] = 0
opening before (byte ∷ text) =
    if byte == 40
    then (if before == 0 then 0 else suc (opening (before - 1) text))
    else suc (opening before text)

-- what is shown of a domain: its stretch around the basic domain that stands after so many others
abbrev pub IsOfPart : Option (List ℕ) → ℕ → Snippet → Type 0
IsOfPart None before shown = IsOfField None 0 shown
IsOfPart (Some field) before shown = IsOfField (Some field) (opening before field) shown

-- the line of what is told: the file's path, the line on which the row begins, and what is said
abbrev pub doubt_line : List ℕ → ℕ → Told → List ℕ
doubt_line path line told = printable path ++ codes ":" ++ decimal line ++ codes ": " ++ doubt_text told ++ codes "\n"

-- the lines below it: the domain, with a caret below the basic domain, and what may be meant
abbrev pub doubt_snippet : Told → Snippet → List ℕ
doubt_snippet told snippet = snippet_text snippet ++ perhaps_line told.rule told.part

-- the lines of what is told of a file with these bytes, in order
abbrev pub AreDoubtLines : List ℕ → List ℕ → List Told → List ℕ → Type 0
AreDoubtLines path bytes [] text = text ≡ []
AreDoubtLines path bytes (told ∷ rest) text =
    (line : ℕ) × IsLine bytes told.row line × (snippet : Snippet) × IsOfPart (field_of bytes told.row 3) told.part.before snippet
    × (after : List ℕ) × AreDoubtLines path bytes rest after
    × (text ≡ doubt_line path line told ++ doubt_snippet told snippet ++ after)

-- the line of a code that one row alone names
abbrev pub lone_line : List ℕ → ℕ → LoneCode → List ℕ
lone_line path line lone = printable path ++ codes ":" ++ decimal line ++ codes ": " ++ lone_text lone ++ codes "\n"

-- the lines of such codes of a file with these bytes, in order, with the row's field of vehicle types below each
abbrev pub AreLoneLines : List ℕ → List ℕ → List LoneCode → List ℕ → Type 0
AreLoneLines path bytes [] text = text ≡ []
AreLoneLines path bytes (lone ∷ rest) text =
    (line : ℕ) × IsLine bytes lone.row line × (snippet : Snippet) × IsOfField (field_of bytes lone.row 2) 0 snippet
    × (after : List ℕ) × AreLoneLines path bytes rest after
    × (text ≡ lone_line path line lone ++ snippet_text snippet ++ after)

-- the lines of all warnings of a file: of what is told of its rows, and then of the codes that one row alone names
pub record AreDoubts (path : List ℕ) (asked : Asked) (bytes text : List ℕ) : Type 0 where
  pub told : List Told
  pub all_told : AreToldOfFile asked bytes told
  pub first : List ℕ
  pub told_lines : AreDoubtLines path bytes told first
  pub lone : List LoneCode
  pub all_lone : AreLoneOfFile asked bytes lone
  pub last : List ℕ
  pub lone_lines : AreLoneLines path bytes lone last
  pub whole : text ≡ first ++ last
