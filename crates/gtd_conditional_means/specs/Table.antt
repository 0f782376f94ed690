-- What a table of means is: its rows, or all its faults.
use Rattle.std.specs.Prelude.{◌≡◌, ◌≢◌, ◌<◌, ◌≤◌, ◌⊎◌, ℕ, ◌+◌, List, [], ◌∷◌, ◌++◌, length, codes}
use Rattle.std.specs.Prelude.{Result, Ok, Err}
use Rattle.csv.specs.Reading.{default_config, records, strip_bom}
use Rattle.gtd_core.specs.Limits.{most_file_bytes}
use Rattle.gtd_rows.specs.Columns.{Fields}
use Rattle.gtd_conditional_means.specs.Rows.{IsRow}
use Rattle.gtd_conditional_means.specs.declared.fault.MeansFault.{MeansFault}
use Rattle.gtd_conditional_means.specs.declared.fault.MeansFault.TheVariants as fault
use Rattle.gtd_conditional_means.specs.declared.meaning.MeansRow.{MeansRow}

-- the most rows of a table
abbrev pub most_table_rows : ℕ
most_table_rows = 4096

-- what a row adds to the rows that are read, and to the faults
abbrev pub read_of : Result MeansRow MeansFault → List MeansRow
read_of (Ok row) = row ∷ []
read_of (Err why) = []

abbrev pub faults_of : Result MeansRow MeansFault → List MeansFault
faults_of (Ok row) = []
faults_of (Err why) = why ∷ []

-- The rows that are read, after those that were read before, and the faults of the others, each in their order, if the first
-- row has this number.
abbrev pub AreEach : ℕ → List MeansRow → List Fields → List MeansRow → List MeansFault → Type 0
AreEach number before [] found faults = (found ≡ before) × (faults ≡ [])
AreEach number before (fields ∷ rows) found faults =
    (answer : Result MeansRow MeansFault) × (others : List MeansFault)
    × IsRow number before fields answer × AreEach (number + 1) (before ++ read_of answer) rows found others
    × (faults ≡ faults_of answer ++ others)

-- there is a row too many: what the rows before it say, and then `TooManyRows`
pub record AreTooMany (rows : List Fields) (found : List MeansRow) (faults : List MeansFault) : Type 0 where
  pub before : List Fields
  pub row : Fields
  pub after : List Fields
  pub split : rows ≡ before ++ row ∷ after
  pub many : length before ≡ most_table_rows
  pub listed : List MeansFault
  pub each : AreEach 1 [] before found listed
  pub whole : faults ≡ listed ++ (fault.TooManyRows ∷ [])

-- the rows after the header
abbrev pub AreRows : List Fields → List MeansRow → List MeansFault → Type 0
AreRows rows found faults =
    ((length rows ≤ most_table_rows) × AreEach 1 [] rows found faults) ⊎ AreTooMany rows found faults

-- the fields of the header
abbrev pub header : Fields
header = codes "kind" ∷ codes "name" ∷ codes "means" ∷ []

-- the records of a text, the first of which is the header: its rows that are read, and the faults of the others
abbrev pub AreTable : List Fields → List MeansRow → List MeansFault → Type 0
AreTable text found faults =
    ((rows : List Fields) × (text ≡ header ∷ rows) × AreRows rows found faults)
    ⊎ (((rows : List Fields) → text ≡ header ∷ rows → ⊥) × (found ≡ []) × (faults ≡ fault.Header ∷ []))

-- The rows of a table's bytes that are read, and the faults of the others. A byte order mark at the front is not part of the
-- text.
abbrev pub AreOfBytes : List ℕ → List MeansRow → List MeansFault → Type 0
AreOfBytes bytes found faults =
    ((length bytes ≤ most_file_bytes) × AreTable (records default_config (strip_bom bytes)) found faults)
    ⊎ ((most_file_bytes < length bytes) × (found ≡ []) × (faults ≡ fault.TooLarge ∷ []))

-- The bytes are a table of these rows; or these are all its faults, at least one, and first the first of them.
abbrev pub IsTable : List ℕ → Result (List MeansRow) (List MeansFault) → Type 0
IsTable bytes (Ok rows) = AreOfBytes bytes rows []
IsTable bytes (Err faults) = (found : List MeansRow) × AreOfBytes bytes found faults × (faults ≢ [])
