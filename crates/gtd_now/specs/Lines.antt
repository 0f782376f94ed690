-- The lines of states, as fields with commas between them.
use Rattle.std.specs.Prelude.{◌++◌, ℕ, List, codes}
use Rattle.gtd_rows.specs.declared.direction.Direction.{Direction}
use Rattle.gtd_states.specs.Lines.{change_text, rows_text, state_head, state_word}
use Rattle.gtd_states.specs.States.{State}

-- the header line
abbrev pub header_line : List ℕ
header_line = codes "element,direction,vehicle,state,until,rows\n"

-- the line of an element in a direction for a vehicle type
abbrev pub state_line : ℕ → Direction → ℕ → State → List ℕ
state_line element direction vehicle state =
    state_head element direction vehicle ++ state_word state.is_open ++ codes "," ++ change_text state.change ++ codes ","
    ++ rows_text state.rows ++ codes "\n"
