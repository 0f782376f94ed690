-- The lines of a file on which its records begin. How a text is cut into records is defined by `csv`.
use Rattle.std.specs.Prelude.{◌≡◌, ◌<◌, ◌+◌, ◌==◌, ◌||◌, not, ℕ, zero, suc, Bool, List, [], ◌∷◌, ◌++◌, drop, get_or, length}
use Rattle.std.specs.Prelude.{Option, Some, None, if◌then◌else◌}
use Rattle.std.specs.List.{count_by}
use Rattle.csv.specs.Machine.{Read, next_record}
use Rattle.csv.specs.Reading.{default_config, records, strip_bom}
use Rattle.csv.specs.declared.parser.State.{State}
use Rattle.csv.specs.declared.parser.State.TheVariants as state

-- a byte that ends no line
abbrev pub is_within : ℕ → Bool
is_within byte = not (byte == 10 || byte == 13)

-- what a record that was taken leaves of a text: the state of the cut, and the bytes that follow
abbrev pub rest_of : Option Read → State × List ℕ
rest_of None = (state.StartRecord, [])
rest_of (Some read) = (read.1, read.2)

-- what is left of a text when so many of its records are taken, or all if there are fewer
unfoldable pub left_after : ℕ → List ℕ → State × List ℕ
left_after zero text = (state.StartRecord, text)
left_after (suc n) text = rest_of (next_record default_config (left_after n text).0 [] [] (left_after n text).1)

-- a text from its first byte on that ends no line: line ends before a record are no part of it
abbrev pub from_record : List ℕ → List ℕ
from_record [] = []
from_record (byte ∷ rest) = if is_within byte then byte ∷ rest else from_record rest

abbrev pub is_line_feed : ℕ → Bool
is_line_feed byte = byte == 10

-- The line of a file on which the record with this number begins: one more than the line feeds before its first byte. The
-- header is record 0. A byte order mark at the front is not part of the text.
pub record IsLine (bytes : List ℕ) (number line : ℕ) : Type 0 where
  pub before : List ℕ
  pub record_follows : bytes ≡ before ++ from_record (left_after number (strip_bom bytes)).1
  pub counted : line ≡ count_by is_line_feed before + 1

-- the line that is named with what is said of a row: that on which the row begins; without a row, the first
abbrev pub IsLineAt : List ℕ → Option ℕ → ℕ → Type 0
IsLineAt bytes None line = line ≡ 1
IsLineAt bytes (Some row) line = IsLine bytes row line

-- The lines of a file on which its rows begin, in order: one for each record after the header, that of row 1 first.
pub record AreLinesOfRows (bytes lines : List ℕ) : Type 0 where
  pub all : length lines ≡ length (drop 1 (records default_config (strip_bom bytes)))
  pub each : (at : ℕ) → at < length lines → IsLine bytes (at + 1) (get_or lines at 0)
