-- What is put of a file.
use Rattle.std.specs.Prelude.{◌≡◌, ℕ, List, [], ◌∷◌, Option, Some, None, length, string_bytes}
use Rattle.gtd_report.specs.Putting.{text_of}
use Rattle.gtd_mend.specs.declared.change.FileChange.{FileChange}
use Rattle.gtd_mend.specs.declared.mend.Answer.{Answer}
use Rattle.gtd_mend.specs.declared.mend.Answer.TheVariants.{Same, Mended}

-- this holds of the bytes that are put of a file with these bytes, and of the lines of changes
abbrev pub Gives : List ℕ → (List ℕ → List (List ℕ) → Type 0) → Answer → Type 0
Gives bytes IsGiven Same = IsGiven bytes []
Gives bytes IsGiven (Mended mended text count) =
    (lines : List (List ℕ)) × IsGiven mended.items lines × (string_bytes text ≡ text_of lines) × (count ≡ length lines)

-- a change, if there is one
abbrev pub marks_of : Option FileChange → List FileChange
marks_of None = []
marks_of (Some change) = change ∷ []
