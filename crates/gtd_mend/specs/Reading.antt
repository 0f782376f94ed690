-- How the rows of a text are read: by the rules of `csv`, with a separator of its own.
use Rattle.std.specs.Prelude.{◌≡◌, ◌+◌, ◌++◌, ℕ, List, [], ◌∷◌, map, Some, None}
use Rattle.std.specs.List.{count_by, take_while}
use Rattle.csv.specs.Machine.{next_record}
use Rattle.csv.specs.Reading.{default_config}
use Rattle.csv.specs.declared.parser.Config.{Config}
use Rattle.csv.specs.declared.parser.State.{State}
use Rattle.csv.specs.declared.parser.State.TheVariants.{StartRecord}
use Rattle.gtd_rows.specs.Columns.{Fields}
use Rattle.gtd_records.specs.Cut.{is_line_end}
use Rattle.gtd_faults.specs.Places.{is_line_feed}
use Rattle.gtd_mend.specs.declared.separator.Separator.{Separator}
use Rattle.gtd_mend.specs.declared.separator.Separator.TheVariants.{Comma, Semicolon, Tab}

abbrev pub separator_byte : Separator → ℕ
separator_byte Comma = 44
separator_byte Semicolon = 59
separator_byte Tab = 9

-- the default rules of `csv` with this separator between fields
abbrev pub by_byte : ℕ → Config
by_byte byte = record default_config { delimiter = byte }

abbrev pub separated_by : Separator → Config
separated_by separator = by_byte (separator_byte separator)

-- a row as it is read: the line on which it begins, and its fields
pub record ReadRow : Type 0 where
  pub line : ℕ
  pub fields : Fields

abbrev pub fields_in : List ReadRow → List Fields
fields_in rows = map (λ (row : ReadRow). row.fields) rows

-- how many lines end in a text
abbrev pub line_feeds : List ℕ → ℕ
line_feeds text = count_by is_line_feed text

-- the line ends that a text begins with, which are part of no row
abbrev pub empty_lines : List ℕ → List ℕ
empty_lines text = take_while is_line_end text

-- the next row of a text, which takes these bytes of it, and leaves the others
pub record IsNextRow (rules : Config) (text : List ℕ) (fields : Fields) (taken rest : List ℕ) : Type 0 where
  pub state : State
  pub read : next_record rules StartRecord [] [] text ≡ Some (fields, state, rest)
  pub cut : text ≡ taken ++ rest

-- All rows of a text, in order, if it begins on this line. A row begins on the line of its first byte.
abbrev pub AreRead : Config → ℕ → List ℕ → List ReadRow → Type 0
AreRead rules line text [] = next_record rules StartRecord [] [] text ≡ None
AreRead rules line text (row ∷ rows) =
    (taken : List ℕ) × (rest : List ℕ) × IsNextRow rules text row.fields taken rest
    × (row.line ≡ line + line_feeds (empty_lines text)) × AreRead rules (line + line_feeds taken) rest rows
