-- Vehicle codes that one row of a file names, and no other.
use Rattle.std.specs.Prelude.{◌≡◌, ◌⊎◌, ◌<◌, ◌≤◌, ◌+◌, ◌++◌, ℕ, zero, suc, List, [], ◌∷◌, get_or, length, map, nat_lt, take}
use Rattle.std.specs.Prelude.{Option, Some, None}
use Rattle.std.specs.List.{Contains, count_by}
use Rattle.csv.specs.Reading.{default_config, records, strip_bom}
use Rattle.gtd_core.specs.Limits.{most_file_bytes, most_rows}
use Rattle.gtd_rows.specs.Columns.{Fields, vehicles_of}
use Rattle.gtd_records.specs.File.{header}
use Rattle.gtd_rows.specs.declared.vehicles.Vehicles.{Vehicles}
use Rattle.gtd_rows.specs.declared.vehicles.Vehicles.TheVariants.{Every, Only, AllBut}
use Rattle.gtd_rows.specs.declared.vehicles.Version.{Version}
use Rattle.gtd_mistakes.specs.declared.rule.Rule.TheVariants as rule
use Rattle.gtd_warnings.specs.declared.codes.LoneCode.{LoneCode}
use Rattle.gtd_warnings.specs.declared.file.Asked.{Asked}

-- a file is looked at if so many of its rows name a code
abbrev pub rows_needed : ℕ
rows_needed = 20

-- the codes that a column names, after a `!`, too; none, if it stands for every type or is at fault
abbrev pub codes_listed : Option Vehicles → List ℕ
codes_listed None = []
codes_listed (Some Every) = []
codes_listed (Some (Only codes)) = codes
codes_listed (Some (AllBut codes)) = codes

-- the codes that a row names: those of its third field, if it has four
abbrev pub codes_named : Version → Fields → List ℕ
codes_named v (element ∷ closed ∷ vehicles ∷ last ∷ []) = codes_listed (vehicles_of v vehicles)
codes_named v other = []

-- Of rows that name these codes, the one after so many others names the code.
abbrev pub Names : List (List ℕ) → ℕ → ℕ → Type 0
Names named code before = Contains (get_or named before []) code

-- it names the code, and no other row does
abbrev pub NamesAlone : List (List ℕ) → ℕ → ℕ → Type 0
NamesAlone named code before = Names named code before × ((other : ℕ) → Names named code other → other ≡ before)

-- how many rows name a code
abbrev pub naming : List (List ℕ) → ℕ
naming named = count_by (λ codes. nat_lt 0 (length codes)) named

-- the codes below this one that one row alone names, in ascending order, each with its row
unfoldable pub AreLoneBelow : List (List ℕ) → ℕ → List LoneCode → Type 0
AreLoneBelow named zero lone = lone ≡ []
AreLoneBelow named (suc code) lone =
    (smaller : List LoneCode) × AreLoneBelow named code smaller
    × (((before : ℕ) × NamesAlone named code before × (lone ≡ smaller ++ (record { row = before + 1; code = code } ∷ [])))
    ⊎ (((before : ℕ) → NamesAlone named code before → ⊥) × (lone ≡ smaller)))

-- the codes of rows that one row alone names, if enough rows name one
abbrev pub AreLoneOfRows : List (List ℕ) → List LoneCode → Type 0
AreLoneOfRows named lone =
    ((rows_needed ≤ naming named) × AreLoneBelow named 100 lone) ⊎ ((naming named < rows_needed) × (lone ≡ []))

-- those of the records of a text: of no more rows than a file may have, and none without a header
abbrev pub AreLoneOfTable : List Fields → List LoneCode → Type 0
AreLoneOfTable text lone =
    ((v : Version) × (rows : List Fields) × (text ≡ header v ∷ rows)
    × AreLoneOfRows (map (codes_named v) (take most_rows rows)) lone)
    ⊎ (((v : Version) (rows : List Fields) → text ≡ header v ∷ rows → ⊥) × (lone ≡ []))

-- those of a file's bytes: none if there are too many, or if the rule is turned off
abbrev pub AreLoneOfFile : Asked → List ℕ → List LoneCode → Type 0
AreLoneOfFile asked bytes lone =
    ((Contains asked.off.items rule.LoneCode → ⊥) × (length bytes ≤ most_file_bytes)
    × AreLoneOfTable (records default_config (strip_bom bytes)) lone)
    ⊎ ((Contains asked.off.items rule.LoneCode ⊎ (most_file_bytes < length bytes)) × (lone ≡ []))
