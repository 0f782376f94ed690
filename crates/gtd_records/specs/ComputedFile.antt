-- What reading a file computes: the sound rows at its front, and then its end or the first row at fault.
use Rattle.std.specs.Prelude.{◌≡◌, ◌<◌, ◌≤◌, ◌⊎◌, ℕ, ◌+◌, List, [], ◌∷◌, ◌++◌, length, Result, Ok, Err}
use Rattle.gtd_core.specs.Limits.{most_rows, most_file_bytes}
use Rattle.csv.specs.Reading.{default_config, records, strip_bom}
use Rattle.gtd_records.specs.Closing.{Restriction}
use Rattle.gtd_rows.specs.Columns.{Fields}
use Rattle.gtd_records.specs.ComputedRow.{IsRow}
use Rattle.gtd_records.specs.File.{header}
use Rattle.gtd_records.specs.declared.fault.RecordFault.{RecordFault}
use Rattle.gtd_records.specs.declared.fault.RecordFault.TheVariants as fault
use Rattle.gtd_rows.specs.declared.vehicles.Version.{Version}

-- these rows stand for these restrictions, one for one, if the first row has this number
abbrev pub AreRecords : Version → ℕ → List Fields → List Restriction → Type 0
AreRecords v number [] found = found ≡ []
AreRecords v number (row ∷ rows) found =
    (first : Restriction) × (rest : List Restriction)
    × IsRow v number row (Ok first) × AreRecords v (number + 1) rows rest × (found ≡ first ∷ rest)

-- the rows are not too many, and each stands for its restriction
abbrev pub AreSoundRows : Version → List Fields → List Restriction → Type 0
AreSoundRows v rows found = (length rows ≤ most_rows) × AreRecords v 1 rows found

-- a row at fault with only sound rows before it: one too many, or one with a fault of its own
pub record FirstFault (v : Version) (rows : List Fields) (why : RecordFault) : Type 0 where
  pub before : List Fields
  pub row : Fields
  pub after : List Fields
  pub split : rows ≡ before ++ row ∷ after
  pub found : List Restriction
  pub sound : AreSoundRows v before found
  pub fault : ((length before ≡ most_rows) × (why ≡ fault.TooManyRows))
      ⊎ ((length before < most_rows) × IsRow v (length before + 1) row (Err why))

-- the rows after the header stand for these restrictions, or have this first fault
abbrev pub AreRows : Version → List Fields → Result (List Restriction) RecordFault → Type 0
AreRows v rows (Ok found) = AreSoundRows v rows found
AreRows v rows (Err why) = FirstFault v rows why

-- the records of a text: a header of either version, and rows
abbrev pub IsTable : List Fields → Result (List Restriction) RecordFault → Type 0
IsTable text answer =
    ((v : Version) × (rows : List Fields) × (text ≡ header v ∷ rows) × AreRows v rows answer)
    ⊎ (((v : Version) (rows : List Fields) → text ≡ header v ∷ rows → ⊥) × (answer ≡ Err fault.Header))

-- the bytes of a file
abbrev pub IsFile : List ℕ → Result (List Restriction) RecordFault → Type 0
IsFile bytes answer =
    ((length bytes ≤ most_file_bytes) × IsTable (records default_config (strip_bom bytes)) answer)
    ⊎ ((most_file_bytes < length bytes) × (answer ≡ Err fault.TooLarge))
