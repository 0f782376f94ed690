-- What a file of hours is, whose texts are read strictly or loosely and with options: its rows, or all its faults.
use Rattle.std.specs.Prelude.{◌≡◌, ◌≢◌, ◌<◌, ◌≤◌, ◌⊎◌, ℕ, ◌+◌, List, [], ◌∷◌, ◌++◌, length, codes, Result, Ok, Err, Option}
use Rattle.std.specs.Prelude.{Some, None, MatchOption}
use Rattle.csv.specs.Reading.{default_config, records, strip_bom}
use Rattle.gtd_core.specs.Limits.{most_basic_domains, most_file_bytes, most_rows}
use Rattle.gtd_hours.specs.Cost.{counted, hours_cost}
use Rattle.gtd_hours_known.specs.declared.known.KnownHours.{KnownHours}
use Rattle.gtd_hours_options.specs.Readings.{HasFault, HowRead, Reads}
use Rattle.gtd_hours_options.specs.declared.fault.OptionsFault.{OptionsFault}
use Rattle.gtd_rows.specs.Columns.{Fields, IsOrdered, closed_of, number_of, vehicles_of}
use Rattle.gtd_rows.specs.declared.direction.Closed.{Closed}
use Rattle.gtd_rows.specs.declared.vehicles.Vehicles.{Vehicles}
use Rattle.gtd_rows.specs.declared.vehicles.Version.TheVariants as version
use Rattle.gtd_hours_file.specs.declared.fault.HoursFileFault.{HoursFileFault}
use Rattle.gtd_hours_file.specs.declared.fault.HoursFileFault.TheVariants as fault
use Rattle.gtd_hours_file.specs.declared.row.HoursRow.{HoursRow}
use Rattle.gtd_hours_file.specs.declared.row.RowHours.{RowHours}

-- What is wrong with a text of hours in the row with this number: its first fault; or hours are read of it whose domain has too
-- many basic domains, which are counted.
pub data IsHoursFault (how : HowRead) (row : ℕ) (text : List ℕ) (why : HoursFileFault) : Type 0 where
  of_first : (bad : OptionsFault) → HasFault how text bad → why ≡ fault.Hours row bad → IsHoursFault how row text why
  of_many : (read : KnownHours) → Reads how text read → most_basic_domains < hours_cost read.hours
      → why ≡ fault.TooMany row (counted (hours_cost read.hours)) → IsHoursFault how row text why

-- ---- columns and rows

-- The text, the hours that are read of it, whose domain has few enough basic domains, and the years in which holidays are known.
pub record IsHoursOf (how : HowRead) (text : List ℕ) (given : RowHours) : Type 0 where
  pub kept : given.text.items ≡ text
  pub reads : Reads how text given.read
  pub years : given.years ≡ how.options.known.years
  pub few : hours_cost given.read.hours ≤ most_basic_domains

-- The last column of a row: no hours if it is empty, and otherwise those of its bytes; or what is wrong with them.
abbrev pub IsHoursColumn : HowRead → ℕ → List ℕ → Result (Option RowHours) HoursFileFault → Type 0
IsHoursColumn how row [] answer = answer ≡ Ok None
IsHoursColumn how row (b ∷ text) (Ok None) = ⊥
IsHoursColumn how row (b ∷ text) (Ok (Some given)) = IsHoursOf how (b ∷ text) given
IsHoursColumn how row (b ∷ text) (Err why) = IsHoursFault how row (b ∷ text) why

-- the row of its columns, or the fault of the last
abbrev pub with_hours : ℕ → Closed → Vehicles → Result (Option RowHours) HoursFileFault → Result HoursRow HoursFileFault
with_hours element closed vehicles (Ok hours) =
    Ok (record { element = element; closed = closed; vehicles = vehicles; hours = hours })
with_hours element closed vehicles (Err why) = Err why

-- four columns, read from the left
abbrev pub IsFullRow : HowRead → ℕ → List ℕ → List ℕ → List ℕ → List ℕ → Result HoursRow HoursFileFault → Type 0
IsFullRow how row element closed vehicles hours answer =
    MatchOption (number_of element) (answer ≡ Err (fault.Element row)) (λ x.
    MatchOption (closed_of closed) (answer ≡ Err (fault.Direction row)) (λ c.
    MatchOption (vehicles_of version.Two vehicles) (answer ≡ Err (fault.Vehicle row)) (λ named.
    (types : Vehicles) × (read : Result (Option RowHours) HoursFileFault)
    × IsOrdered named types × IsHoursColumn how row hours read × (answer ≡ with_hours x c types read))))

-- the row with this number says this, or has this first fault
abbrev pub IsRow : HowRead → ℕ → Fields → Result HoursRow HoursFileFault → Type 0
IsRow how row (element ∷ closed ∷ vehicles ∷ hours ∷ []) answer = IsFullRow how row element closed vehicles hours answer
IsRow how row _ answer = answer ≡ Err (fault.FieldCount row)

-- what a row adds to the rows that are sound, and to the faults
abbrev pub sound_of : Result HoursRow HoursFileFault → List HoursRow
sound_of (Ok row) = row ∷ []
sound_of (Err why) = []

abbrev pub faults_of : Result HoursRow HoursFileFault → List HoursFileFault
faults_of (Ok row) = []
faults_of (Err why) = why ∷ []

-- The sound rows and the faults of the others, each in their order, if the first row has this number.
abbrev pub AreEach : HowRead → ℕ → List Fields → List HoursRow → List HoursFileFault → Type 0
AreEach how number [] sound faults = (sound ≡ []) × (faults ≡ [])
AreEach how number (row ∷ rows) sound faults =
    (answer : Result HoursRow HoursFileFault) × (more : List HoursRow) × (others : List HoursFileFault)
    × IsRow how number row answer × AreEach how (number + 1) rows more others
    × (sound ≡ sound_of answer ++ more) × (faults ≡ faults_of answer ++ others)

-- there is a row too many: what the rows before it say, and then `TooManyRows`
pub record AreTooMany (how : HowRead) (rows : List Fields) (sound : List HoursRow) (faults : List HoursFileFault) : Type 0 where
  pub before : List Fields
  pub row : Fields
  pub after : List Fields
  pub split : rows ≡ before ++ row ∷ after
  pub many : length before ≡ most_rows
  pub listed : List HoursFileFault
  pub each : AreEach how 1 before sound listed
  pub whole : faults ≡ listed ++ (fault.TooManyRows ∷ [])

-- the rows after the header
abbrev pub AreRows : HowRead → List Fields → List HoursRow → List HoursFileFault → Type 0
AreRows how rows sound faults =
    ((length rows ≤ most_rows) × AreEach how 1 rows sound faults) ⊎ AreTooMany how rows sound faults

-- the fields of the header
abbrev pub header : Fields
header = codes "element" ∷ codes "direction" ∷ codes "vehicles" ∷ codes "hours" ∷ []

-- the records of a text: the first is the header, and the others are rows
abbrev pub AreTable : HowRead → List Fields → List HoursRow → List HoursFileFault → Type 0
AreTable how text sound faults =
    ((rows : List Fields) × (text ≡ header ∷ rows) × AreRows how rows sound faults)
    ⊎ (((rows : List Fields) → text ≡ header ∷ rows → ⊥) × (sound ≡ []) × (faults ≡ fault.Header ∷ []))

-- The sound rows of a file's bytes, and all its faults. A byte order mark at the front is not part of the text.
abbrev pub AreOfFile : HowRead → List ℕ → List HoursRow → List HoursFileFault → Type 0
AreOfFile how bytes sound faults =
    ((length bytes ≤ most_file_bytes) × AreTable how (records default_config (strip_bom bytes)) sound faults)
    ⊎ ((most_file_bytes < length bytes) × (sound ≡ []) × (faults ≡ fault.TooLarge ∷ []))

-- The bytes are a file of hours with these rows; or these are all its faults, at least one.
abbrev pub IsHoursFile : HowRead → List ℕ → Result (List HoursRow) (List HoursFileFault) → Type 0
IsHoursFile how bytes (Ok rows) = AreOfFile how bytes rows []
IsHoursFile how bytes (Err faults) = (sound : List HoursRow) × AreOfFile how bytes sound faults × (faults ≢ [])
