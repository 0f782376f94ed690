-- What a table of holidays is: its rows, or all its faults.
use Rattle.std.specs.Prelude.{◌≡◌, ◌≢◌, ◌<◌, ◌≤◌, ◌⊎◌, ℕ, ◌+◌, Bool, true, false, List, [], ◌∷◌, ◌++◌, length, codes}
use Rattle.std.specs.Prelude.{Result, Ok, Err, ℤ, ◌≤ℤ◌}
use Rattle.csv.specs.Reading.{default_config, records, strip_bom}
use Rattle.gtd_core.specs.Limits.{most_file_bytes}
use Rattle.gtd_rows.specs.Columns.{Fields}
use Rattle.gtd_hours_holidays.specs.Rows.{IsRow}
use Rattle.gtd_hours_holidays.specs.declared.fault.HolidaysFault.{HolidaysFault}
use Rattle.gtd_hours_holidays.specs.declared.fault.HolidaysFault.TheVariants as fault
use Rattle.gtd_hours_holidays.specs.declared.row.HolidayKind.{HolidayKind}
use Rattle.gtd_hours_holidays.specs.declared.row.HolidayRow.{HolidayRow}

-- the most rows of a table
abbrev pub most_table_rows : ℕ
most_table_rows = 4096

-- ---- what rows say of a day

-- the row is of the kind, covers days or not, and the day is one of its days
abbrev pub IsOfRow : HolidayKind → Bool → ℤ → HolidayRow → Type 0
IsOfRow kind covers n row = (row.kind ≡ kind) × (row.covers ≡ covers) × (row.first ≤ℤ n) × (n ≤ℤ row.last)

-- one of the rows is so
abbrev pub IsOfRows : HolidayKind → Bool → ℤ → List HolidayRow → Type 0
IsOfRows kind covers n [] = ⊥
IsOfRows kind covers n (row ∷ rows) = IsOfRow kind covers n row ⊎ IsOfRows kind covers n rows

-- the day is a holiday of the kind
abbrev pub IsHoliday : List HolidayRow → HolidayKind → ℤ → Type 0
IsHoliday rows kind n = IsOfRows kind false n rows

-- all holidays of the kind on the day are in the table
abbrev pub IsCovered : List HolidayRow → HolidayKind → ℤ → Type 0
IsCovered rows kind n = IsOfRows kind true n rows

-- each day of the row, if they are holidays, is covered by the rows
abbrev pub IsInside : List HolidayRow → HolidayRow → Type 0
IsInside all row = row.covers ≡ false → (n : ℤ) → row.first ≤ℤ n → n ≤ℤ row.last → IsCovered all row.kind n

-- ---- the rows of a text

-- what a row adds to the rows that are read, and to the faults
abbrev pub read_of : Result HolidayRow HolidaysFault → List HolidayRow
read_of (Ok row) = row ∷ []
read_of (Err why) = []

abbrev pub faults_of : Result HolidayRow HolidaysFault → List HolidaysFault
faults_of (Ok row) = []
faults_of (Err why) = why ∷ []

-- The rows that are read and the faults of the others, each in their order, if the first row has this number.
abbrev pub AreEach : ℕ → List Fields → List HolidayRow → List HolidaysFault → Type 0
AreEach number [] found faults = (found ≡ []) × (faults ≡ [])
AreEach number (fields ∷ rows) found faults =
    (answer : Result HolidayRow HolidaysFault) × (more : List HolidayRow) × (others : List HolidaysFault)
    × IsRow number fields answer × AreEach (number + 1) rows more others
    × (found ≡ read_of answer ++ more) × (faults ≡ faults_of answer ++ others)

-- there is a row too many: what the rows before it say, and then `TooManyRows`
pub record AreTooMany (rows : List Fields) (found : List HolidayRow) (faults : List HolidaysFault) : Type 0 where
  pub before : List Fields
  pub row : Fields
  pub after : List Fields
  pub split : rows ≡ before ++ row ∷ after
  pub many : length before ≡ most_table_rows
  pub listed : List HolidaysFault
  pub each : AreEach 1 before found listed
  pub whole : faults ≡ listed ++ (fault.TooManyRows ∷ [])

-- the rows after the header
abbrev pub AreRows : List Fields → List HolidayRow → List HolidaysFault → Type 0
AreRows rows found faults =
    ((length rows ≤ most_table_rows) × AreEach 1 rows found faults) ⊎ AreTooMany rows found faults

-- ---- holidays that no row covers

-- `Outside` for each of the rows that is not inside all of them, if the first has this number
abbrev pub AreOutside : List HolidayRow → ℕ → List HolidayRow → List HolidaysFault → Type 0
AreOutside all number [] faults = faults ≡ []
AreOutside all number (row ∷ rows) faults =
    (others : List HolidaysFault) × AreOutside all (number + 1) rows others
    × ((IsInside all row × (faults ≡ others)) ⊎ ((IsInside all row → ⊥) × (faults ≡ fault.Outside number ∷ others)))

-- all faults of a table, given those of its rows: they are looked for outside only if all rows are read
abbrev pub AreAllFaults : List HolidayRow → List HolidaysFault → List HolidaysFault → Type 0
AreAllFaults found [] faults = AreOutside found 1 found faults
AreAllFaults found (why ∷ whys) faults = faults ≡ why ∷ whys

-- ---- the table

-- the fields of the header
abbrev pub header : Fields
header = codes "first" ∷ codes "last" ∷ codes "kind" ∷ codes "name" ∷ []

-- the records of a text, the first of which is the header: its rows that are read, and the faults of the others
abbrev pub AreTable : List Fields → List HolidayRow → List HolidaysFault → Type 0
AreTable text found faults =
    ((rows : List Fields) × (text ≡ header ∷ rows) × AreRows rows found faults)
    ⊎ (((rows : List Fields) → text ≡ header ∷ rows → ⊥) × (found ≡ []) × (faults ≡ fault.Header ∷ []))

-- The rows of a table's bytes that are read, and the faults of the others. A byte order mark at the front is not part of the
-- text.
abbrev pub AreOfBytes : List ℕ → List HolidayRow → List HolidaysFault → Type 0
AreOfBytes bytes found faults =
    ((length bytes ≤ most_file_bytes) × AreTable (records default_config (strip_bom bytes)) found faults)
    ⊎ ((most_file_bytes < length bytes) × (found ≡ []) × (faults ≡ fault.TooLarge ∷ []))

-- The bytes are a table of these rows; or these are all its faults, at least one, and first the first of them.
abbrev pub IsTable : List ℕ → Result (List HolidayRow) (List HolidaysFault) → Type 0
IsTable bytes (Ok rows) = AreOfBytes bytes rows [] × AreOutside rows 1 rows []
IsTable bytes (Err faults) =
    (found : List HolidayRow) × (listed : List HolidaysFault)
    × AreOfBytes bytes found listed × AreAllFaults found listed faults × (faults ≢ [])
