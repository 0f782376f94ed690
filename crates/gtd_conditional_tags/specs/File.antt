-- What a file of tags is: its tags, and all its faults.
use Rattle.std.specs.Prelude.{◌≡◌, ◌<◌, ◌≤◌, ◌⊎◌, ℕ, List, [], ◌∷◌, ◌++◌, length, map, codes}
use Rattle.csv.specs.Reading.{default_config, records, strip_bom}
use Rattle.gtd_core.specs.Limits.{most_file_bytes, most_rows}
use Rattle.gtd_rows.specs.Columns.{Fields}
use Rattle.gtd_conditional_means.specs.declared.meaning.MeansRow.{MeansRow}
use Rattle.gtd_conditional_tags.specs.Rows.{faults_of, said_by, tags_of}
use Rattle.gtd_conditional_tags.specs.declared.fault.TagsFault.{TagsFault}
use Rattle.gtd_conditional_tags.specs.declared.fault.TagsFault.TheVariants as fault
use Rattle.gtd_conditional_tags.specs.declared.row.Tag.{Tag}

-- there are few enough rows: their tags, and the faults of the others
pub record AreFew (means : List MeansRow) (rows : List Fields) (tags : List Tag) (faults : List TagsFault) : Type 0 where
  pub few : length rows ≤ most_rows
  pub said : map said_by tags ≡ tags_of means [] 1 rows
  pub told : faults ≡ faults_of means [] 1 rows

-- there is a row too many: what the rows before it say, and then `TooManyRows`
pub record AreTooMany (means : List MeansRow) (rows : List Fields) (tags : List Tag) (faults : List TagsFault) : Type 0 where
  pub before : List Fields
  pub row : Fields
  pub after : List Fields
  pub split : rows ≡ before ++ row ∷ after
  pub many : length before ≡ most_rows
  pub said : map said_by tags ≡ tags_of means [] 1 before
  pub told : faults ≡ faults_of means [] 1 before ++ (fault.TooManyRows ∷ [])

-- the fields of the header
abbrev pub header : Fields
header = codes "element" ∷ codes "key" ∷ codes "value" ∷ []

-- the records of a text, the first of which is the header: the tags of its rows, and all its faults
abbrev pub AreTable : List MeansRow → List Fields → List Tag → List TagsFault → Type 0
AreTable means text tags faults =
    ((rows : List Fields) × (text ≡ header ∷ rows) × (AreFew means rows tags faults ⊎ AreTooMany means rows tags faults))
    ⊎ (((rows : List Fields) → text ≡ header ∷ rows → ⊥) × (tags ≡ []) × (faults ≡ fault.Header ∷ []))

-- The tags of a file's bytes, and all its faults, by the rows of a table of means. A byte order mark at the front is not part
-- of the text.
abbrev pub AreOfBytes : List MeansRow → List ℕ → List Tag → List TagsFault → Type 0
AreOfBytes means bytes tags faults =
    ((length bytes ≤ most_file_bytes) × AreTable means (records default_config (strip_bom bytes)) tags faults)
    ⊎ ((most_file_bytes < length bytes) × (tags ≡ []) × (faults ≡ fault.TooLarge ∷ []))
