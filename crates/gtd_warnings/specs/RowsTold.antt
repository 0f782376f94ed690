-- What is told of the rows of a record file.
use Rattle.std.specs.Prelude.{◌≡◌, ◌<◌, ◌≤◌, ◌⊎◌, ◌+◌, ◌++◌, ℕ, List, [], ◌∷◌, length, take, Option, Some, None, ⊤}
use Rattle.std.specs.List.{Contains}
use Rattle.csv.specs.Reading.{default_config, records, strip_bom}
use Rattle.gtd_core.specs.Limits.{most_file_bytes, most_rows}
use Rattle.gtd_core.specs.Trees.{Tree}
use Rattle.gtd_core.specs.declared.fault.TextFault.{TextFault}
use Rattle.gtd_core.specs.declared.horizon.Horizon.{Horizon}
use Rattle.gtd_text.specs.Reading.{HasNoFault, IsFault, StandsFor}
use Rattle.gtd_rows.specs.Columns.{Fields}
use Rattle.gtd_records.specs.File.{header}
use Rattle.gtd_rows.specs.declared.vehicles.Version.{Version}
use Rattle.gtd_mistakes.specs.Told.{AreToldOfDomain, told_at}
use Rattle.gtd_mistakes.specs.declared.rule.Rule.{Rule}
use Rattle.gtd_mistakes.specs.declared.told.Told.{Told}
use Rattle.gtd_warnings.specs.Days.{HoldsOn}
use Rattle.gtd_warnings.specs.Extents.{HoldsThroughout}
use Rattle.gtd_warnings.specs.declared.file.Asked.{Asked}

-- The domain of a row: the expression that its last field stands for, if it has four fields and the last is a domain.
abbrev pub IsDomainOf : Fields → Option Tree → Type 0
IsDomainOf (element ∷ closed ∷ vehicles ∷ text ∷ []) (Some tree) = StandsFor text tree × HasNoFault text
IsDomainOf (element ∷ closed ∷ vehicles ∷ text ∷ []) None = (fault : TextFault) × IsFault text fault
IsDomainOf other (Some tree) = ⊥
IsDomainOf other None = ⊤

-- the rule holds on the first of these days, if some are given
abbrev pub IsOnDay : Option Horizon → Tree → Rule → Type 0
IsOnDay None tree rule = ⊥
IsOnDay (Some days) tree rule = HoldsOn rule days tree

-- what is told of a row's domain by rules of which at most one holds: that rule, if it is not turned off, or nothing
abbrev pub AreToldOnce : ℕ → List Rule → (Rule → Type 0) → Tree → List Told → Type 0
AreToldOnce row off Holds tree told =
    ((rule : Rule) × Holds rule × (Contains off rule → ⊥) × (told ≡ told_at row 0 tree rule ∷ []))
    ⊎ (((rule : Rule) → Holds rule → Contains off rule) × (told ≡ []))

-- What is told of a row with this domain, or without one: first of the domain's parts, then whether it never or always holds,
-- and then whether it is over.
abbrev pub AreToldOfRow : Asked → ℕ → Option Tree → List Told → Type 0
AreToldOfRow asked row None told = told ≡ []
AreToldOfRow asked row (Some tree) told =
    (first : List Told) × (second : List Told) × (third : List Told)
    × AreToldOfDomain row asked.off.items tree first
    × AreToldOnce row asked.off.items (HoldsThroughout tree) tree second
    × AreToldOnce row asked.off.items (IsOnDay asked.days tree) tree third
    × (told ≡ (first ++ second) ++ third)

abbrev pub IsToldOfRow : Asked → ℕ → Fields → List Told → Type 0
IsToldOfRow asked row fields told =
    (domain : Option Tree) × IsDomainOf fields domain × AreToldOfRow asked row domain told

-- what is told of rows, in their order, if the first has this number
abbrev pub AreToldOfRows : Asked → ℕ → List Fields → List Told → Type 0
AreToldOfRows asked number [] told = told ≡ []
AreToldOfRows asked number (row ∷ rows) told =
    (here : List Told) × (rest : List Told)
    × IsToldOfRow asked number row here × AreToldOfRows asked (number + 1) rows rest × (told ≡ here ++ rest)

-- what is told of the records of a text: of no more rows than a file may have, and nothing without a header
abbrev pub AreToldOfTable : Asked → List Fields → List Told → Type 0
AreToldOfTable asked text told =
    ((v : Version) × (rows : List Fields) × (text ≡ header v ∷ rows) × AreToldOfRows asked 1 (take most_rows rows) told)
    ⊎ (((v : Version) (rows : List Fields) → text ≡ header v ∷ rows → ⊥) × (told ≡ []))

-- what is told of a file's bytes: nothing if there are too many
abbrev pub AreToldOfFile : Asked → List ℕ → List Told → Type 0
AreToldOfFile asked bytes told =
    ((length bytes ≤ most_file_bytes) × AreToldOfTable asked (records default_config (strip_bom bytes)) told)
    ⊎ ((most_file_bytes < length bytes) × (told ≡ []))
