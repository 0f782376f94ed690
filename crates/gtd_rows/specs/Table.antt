-- The records that a reader of comma-separated text still has to give.
use Rattle.std.specs.Prelude.{◌≡◌, ◌⊎◌, ℕ, ◌+◌, Bool, true, false, List, [], ◌∷◌, length, Option, Some}
use Rattle.csv.specs.Reading.{Ready, default_config, source_of, records_from}
use Rattle.csv.specs.Reading.{reader_config, reader_state, reader_trim, is_flexible}
use Rattle.csv.specs.declared.parser.State.{State}
use Rattle.csv.specs.declared.parser.State.TheVariants as state
use Rattle.csv.specs.declared.reader.Reader.{Reader}
use Rattle.csv.specs.declared.reader.Trim.TheVariants as trim
use Rattle.gtd_rows.specs.Columns.{Fields}

-- between two records
abbrev pub IsBetween : State → Type 0
IsBetween s = (s ≡ state.StartRecord) ⊎ (s ≡ state.AfterCr)

-- the records of the bytes that follow, from between two records
abbrev pub records_after : State → List ℕ → List Fields
records_after s bytes = records_from default_config (length bytes + 1) s bytes

-- a reader with the default rules and records of any lengths, which still has these records to give
pub record HasLeft {R : Type 0} (rem : R → Option (List ℕ)) (reader : Reader R) (left : List Fields) : Type 0 where
  pub config : reader_config reader ≡ default_config
  pub trim : reader_trim reader ≡ trim.None
  pub flexible : is_flexible reader ≡ true
  pub ready : Ready reader
  pub between : IsBetween (reader_state reader)
  pub bytes : List ℕ
  pub source : source_of rem reader ≡ Some bytes
  pub records : left ≡ records_after (reader_state reader) bytes

-- the first record that was left, if there was one, has these fields
abbrev pub TakesFirst : {R : Type 0} → (R → Option (List ℕ)) → Reader R → Reader R → Bool → Fields → Type 0
TakesFirst {R} rem old new true fields =
    (left : List Fields) → HasLeft rem old left
    → (rest : List Fields) × (left ≡ fields ∷ rest) × HasLeft rem new rest
TakesFirst {R} rem old new false fields = (left : List Fields) → HasLeft rem old left → left ≡ []
