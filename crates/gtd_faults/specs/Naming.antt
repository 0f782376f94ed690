-- What is kept of the rows that name vehicle codes.
use Rattle.std.specs.Prelude.{◌≡◌, ◌≢◌, ◌<◌, ◌+◌, ◌++◌, ℕ, List, [], ◌∷◌, get_or, length, string_bytes}
use Rattle.gtd_warnings.specs.Codes.{AreLoneBelow, Names, NamesAlone}
use Rattle.gtd_warnings.specs.declared.codes.LoneCode.{LoneCode}
use Rattle.gtd_faults.specs.Doubts.{AreLoneLines}
use Rattle.gtd_faults.specs.declared.codes.Naming.{Naming}
use Rattle.gtd_faults.specs.declared.codes.Naming.TheVariants as naming

-- Of rows that name these codes, in a file with this path and these bytes: none names the code, or one alone, whose lines are
-- kept, or two do.
abbrev pub IsKept : List ℕ → List ℕ → List (List ℕ) → ℕ → Naming → Type 0
IsKept path bytes named code naming.Never = (before : ℕ) → Names named code before → ⊥
IsKept path bytes named code (naming.Once row text) =
    (before : ℕ) × (row ≡ before + 1) × NamesAlone named code before
    × AreLoneLines path bytes (record { row = row; code = code } ∷ []) (string_bytes text)
IsKept path bytes named code naming.Often =
    (one : ℕ) × (other : ℕ) × (one ≢ other) × Names named code one × Names named code other

-- the lines that are kept
abbrev pub kept_lines : Naming → List ℕ
kept_lines (naming.Once row text) = string_bytes text
kept_lines other = []

-- that is kept of each code below 100
abbrev pub AreKept : List ℕ → List ℕ → List (List ℕ) → List Naming → Type 0
AreKept path bytes named kept =
    (length kept ≡ 100) × ((code : ℕ) → code < 100 → IsKept path bytes named code (get_or kept code naming.Never))

-- the lines of the codes below this one that one row alone names come after a text
abbrev pub AreLoneBefore : List ℕ → List ℕ → List (List ℕ) → ℕ → List ℕ → List ℕ → Type 0
AreLoneBefore path bytes named code old new =
    (lone : List LoneCode) × AreLoneBelow named code lone × (last : List ℕ)
    × AreLoneLines path bytes lone last × (new ≡ old ++ last)
