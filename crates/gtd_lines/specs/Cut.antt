-- What the code that looks for the end of a record knows.
use Rattle.std.specs.Prelude.{◌≡◌, ◌≤◌, ℕ, List, true, false, Option, Some, None, drop, length, take, ◌+◌}
use Rattle.std.specs.List.{count_by}
use Rattle.csv.specs.Machine.{is_end, step}
use Rattle.csv.specs.Reading.{default_config, strip_bom}
use Rattle.csv.specs.declared.parser.State.{State}
use Rattle.csv.specs.declared.parser.State.TheVariants as state
use Rattle.gtd_lines.specs.Lines.{from_record, is_line_feed, left_after}
use Rattle.gtd_lines.specs.declared.cut.Within.{Within}
use Rattle.gtd_lines.specs.declared.cut.Within.TheVariants as within
use Rattle.gtd_lines.specs.declared.cut.Place.{Place}

-- the state in which `csv` is there
abbrev pub state_of : Within → State
state_of within.FieldStart = state.StartField
state_of within.Plain = state.InField
state_of within.Quoted = state.InQuoted
state_of within.Quote = state.AfterQuote

-- what `csv` does with a byte: the record ends, or goes on from there
abbrev pub IsStep : State → ℕ → Option Within → Type 0
IsStep s byte None = is_end (step default_config s byte).1 ≡ true
IsStep s byte (Some next) =
    (is_end (step default_config s byte).1 ≡ false) × ((step default_config s byte).0 ≡ state_of next)

-- the place at which the record with this number begins, and its line
pub record IsPlace (bytes : List ℕ) (number : ℕ) (place : Place) : Type 0 where
  pub within : place.at ≤ length bytes
  pub begins : drop place.at bytes ≡ from_record (left_after number (strip_bom bytes)).1
  pub counted : place.line ≡ count_by is_line_feed (take place.at bytes) + 1
