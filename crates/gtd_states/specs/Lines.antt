-- The parts of lines that tell a state.
use Rattle.std.specs.Prelude.{◌++◌, ℕ, ℤ, List, [], ◌∷◌, Bool, true, false, Option, Some, None, codes, decimal, flat_map}
use Rattle.gtd_calendar.specs.Stamp.{stamp_text}
use Rattle.gtd_rows.specs.declared.direction.Direction.{Direction}
use Rattle.gtd_report.specs.Putting.{direction_word}

-- the element, the direction and the vehicle type, each with its comma
abbrev pub state_head : ℕ → Direction → ℕ → List ℕ
state_head element direction vehicle =
    decimal element ++ codes "," ++ direction_word direction ++ codes "," ++ decimal vehicle ++ codes ","

-- the word for a state, by whether it is open
abbrev pub state_word : Bool → List ℕ
state_word true = codes "open"
state_word false = codes "closed"

-- the moment of a change, or nothing if there is none
abbrev pub change_text : Option ℤ → List ℕ
change_text None = []
change_text (Some second) = stamp_text second

-- numbers in their order, with semicolons between them
abbrev pub rows_text : List ℕ → List ℕ
rows_text [] = []
rows_text (row ∷ rest) = decimal row ++ flat_map (λ other. codes ";" ++ decimal other) rest
