-- What the code that reads a row knows.
use Rattle.std.specs.Prelude.{◌≡◌, ℕ, List, [], true, false, Option, Some, None}
use Rattle.csv.specs.Machine.{field_after, fields_after, is_end, next_record, step}
use Rattle.csv.specs.declared.parser.Config.{Config}
use Rattle.csv.specs.declared.parser.State.{State}
use Rattle.csv.specs.declared.parser.State.TheVariants as state
use Rattle.csv.specs.declared.parser.Action.TheVariants as action
use Rattle.gtd_rows.specs.Columns.{Fields}
use Rattle.gtd_mend.specs.Reading.{by_byte}
use Rattle.gtd_mend.specs.declared.cut.Within.{Within}
use Rattle.gtd_mend.specs.declared.cut.Within.TheVariants as within
use Rattle.gtd_mend.specs.declared.cut.Effect.{Effect}
use Rattle.gtd_mend.specs.declared.cut.Effect.TheVariants.{Copy, Skip, EndField, EndRow}

-- the state in which `csv` is there
abbrev pub state_of : Within → State
state_of within.FieldStart = state.StartField
state_of within.Plain = state.InField
state_of within.Quoted = state.InQuoted
state_of within.Quote = state.AfterQuote

-- what `csv` does with a byte
abbrev pub IsStep : ℕ → State → ℕ → Effect → Type 0
IsStep separator s byte (Copy next) = step (by_byte separator) s byte ≡ (state_of next, action.Copy)
IsStep separator s byte (Skip next) = step (by_byte separator) s byte ≡ (state_of next, action.Skip)
IsStep separator s byte EndField = step (by_byte separator) s byte ≡ (state.StartField, action.EndField)
IsStep separator s byte EndRow = (step (by_byte separator) s byte).1 ≡ action.EndRecord

-- the fields and the bytes of the field at hand after a byte, and where it leads to, if it does not end the row
abbrev pub IsFed : ℕ → State → ℕ → Fields → List ℕ → Fields → List ℕ → Option Within → Type 0
IsFed separator s byte fields field fields_new field_new None =
    (is_end (step (by_byte separator) s byte).1 ≡ true)
    × (fields_new ≡ fields_after (step (by_byte separator) s byte).1 fields field)
IsFed separator s byte fields field fields_new field_new (Some next) =
    (is_end (step (by_byte separator) s byte).1 ≡ false) × ((step (by_byte separator) s byte).0 ≡ state_of next)
    × (fields_new ≡ fields_after (step (by_byte separator) s byte).1 fields field)
    × (field_new ≡ field_after (step (by_byte separator) s byte).1 byte field)

-- a row that begins with the first of these bytes has these fields, and leaves these bytes
pub record IsRowRead (rules : Config) (text : List ℕ) (fields : Fields) (rest : List ℕ) : Type 0 where
  pub after : State
  pub read : next_record rules state.StartField [] [] text ≡ Some (fields, after, rest)
