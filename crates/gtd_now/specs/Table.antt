-- The lines of states, in columns for a screen: each field is filled with spaces up to the width of its column, and two spaces
-- stand between columns. Each width holds every value of its field.
use Rattle.std.specs.Prelude.{◌++◌, ◌-◌, ℕ, zero, suc, ℤ, List, [], ◌∷◌, Option, Some, None, codes, decimal, length}
use Rattle.gtd_calendar.specs.Stamp.{stamp_text}
use Rattle.gtd_rows.specs.declared.direction.Direction.{Direction}
use Rattle.gtd_report.specs.Putting.{direction_word}
use Rattle.gtd_states.specs.Lines.{rows_text, state_word}
use Rattle.gtd_states.specs.States.{State}

-- so many spaces
abbrev pub spaces : ℕ → List ℕ
spaces zero = []
spaces (suc count) = 32 ∷ spaces count

-- the spaces that a text needs to be so wide
abbrev pub fill : ℕ → List ℕ → List ℕ
fill width text = spaces (width - length text)

-- a text at the right edge, and at the left edge, of a column
abbrev pub right : ℕ → List ℕ → List ℕ
right width text = fill width text ++ text

abbrev pub left : ℕ → List ℕ → List ℕ
left width text = text ++ fill width text

-- the moment of a change, or `-` if there is none
abbrev pub change_shown : Option ℤ → List ℕ
change_shown None = codes "-"
change_shown (Some second) = stamp_text second

-- the rows, or `-` if there is none
abbrev pub rows_shown : List ℕ → List ℕ
rows_shown [] = codes "-"
rows_shown (row ∷ rest) = rows_text (row ∷ rest)

-- the columns: an element of a file has 10 digits at most, a direction or its heading 9 letters, a state 6, a moment 19 bytes
abbrev pub table_line : List ℕ → List ℕ → List ℕ → List ℕ → List ℕ → List ℕ
table_line element direction state until rows =
    right 10 element ++ codes "  " ++ left 9 direction ++ codes "  " ++ left 6 state ++ codes "  " ++ left 19 until ++ codes "  "
    ++ rows ++ codes "\n"

-- the headings
abbrev pub table_header : List ℕ
table_header = table_line (codes "element") (codes "direction") (codes "state") (codes "until") (codes "rows")

-- the line of an element in a direction
abbrev pub table_row : ℕ → Direction → State → List ℕ
table_row element direction state =
    table_line (decimal element) (direction_word direction) (state_word state.is_open) (change_shown state.change)
    (rows_shown state.rows)
