-- What a record file is: its restrictions, or its first fault.
use Rattle.std.specs.Prelude.{◌≡◌, ◌<◌, ◌≤◌, ◌⊎◌, ℕ, ◌+◌, List, [], ◌∷◌, length, codes, Result, Ok, Err, ⊤}
use Rattle.csv.specs.Reading.{default_config, records, strip_bom}
use Rattle.gtd_records.specs.Closing.{Restriction}
use Rattle.gtd_records.specs.Row.{IsRow}
use Rattle.gtd_records.specs.declared.fault.RecordFault.{RecordFault}
use Rattle.gtd_records.specs.declared.fault.RecordFault.TheVariants as fault
use Rattle.gtd_rows.specs.declared.vehicles.Version.{Version}
use Rattle.gtd_rows.specs.declared.vehicles.Version.TheVariants as version

-- the fault is of the file, and not of the device or of memory
abbrev pub IsOfFile : RecordFault → Type 0
IsOfFile fault.ReadFault = ⊥
IsOfFile fault.Endless = ⊥
IsOfFile fault.NoMemory = ⊥
IsOfFile _ = ⊤

-- the fields of the header, which decides the version
abbrev pub header : Version → List (List ℕ)
header version.One = codes "element" ∷ codes "direction" ∷ codes "vehicle" ∷ codes "domain" ∷ []
header version.Two = codes "element" ∷ codes "direction" ∷ codes "vehicles" ∷ codes "domain" ∷ []

-- The rows, of which the first has this number, stand for these restrictions, one for one, or have this first fault.
abbrev pub AreRows : Version → ℕ → List (List (List ℕ)) → Result (List Restriction) RecordFault → Type 0
AreRows v number [] answer = answer ≡ Ok []
AreRows v number (row ∷ rows) (Ok found) =
    (number ≤ 65_536) × (first : Restriction) × (rest : List Restriction)
    × IsRow v number row (Ok first) × AreRows v (number + 1) rows (Ok rest) × (found ≡ first ∷ rest)
AreRows v number (row ∷ rows) (Err why) =
    ((65_536 < number) × (why ≡ fault.TooManyRows))
    ⊎ ((number ≤ 65_536) × (IsRow v number row (Err why)
    ⊎ ((first : Restriction) × IsRow v number row (Ok first) × AreRows v (number + 1) rows (Err why))))

-- The records of comma-separated text (RFC 4180): the first is a header of either version, and the others are rows.
abbrev pub IsTable : List (List (List ℕ)) → Result (List Restriction) RecordFault → Type 0
IsTable text answer =
    ((v : Version) × (rows : List (List (List ℕ))) × (text ≡ header v ∷ rows) × AreRows v 1 rows answer)
    ⊎ (((v : Version) (rows : List (List (List ℕ))) → text ≡ header v ∷ rows → ⊥) × (answer ≡ Err fault.Header))

-- The bytes are a file of these restrictions, or have this first fault. A byte order mark at the front is not part of
-- the text.
abbrev pub IsFile : List ℕ → Result (List Restriction) RecordFault → Type 0
IsFile bytes answer =
    ((length bytes ≤ 16_777_216) × IsTable (records default_config (strip_bom bytes)) answer)
    ⊎ ((16_777_216 < length bytes) × (answer ≡ Err fault.TooLarge))
