-- The tokens of an object, in parts.
use Rattle.std.specs.Prelude.{◌++◌, ℕ, List, [], ◌∷◌, codes, decimal}
use Rattle.gtd_rows.specs.declared.direction.Direction.{Direction}
use Rattle.gtd_report.specs.Putting.{direction_word}
use Rattle.gtd_states.specs.Lines.{state_word}
use Rattle.gtd_states.specs.States.{State}
use Rattle.json.specs.Json.{array}
use Rattle.json.specs.Token.{Token, key, number, string}
use Rattle.json.specs.Tree.{json_tokens}
use Rattle.gtd_now.specs.Objects.{change_value, row_items}

-- a member whose value is a number, and one whose value is a text
abbrev pub number_member : List ℕ → ℕ → List Token
number_member name n = key name ∷ number (decimal n) ∷ []

abbrev pub text_member : List ℕ → List ℕ → List Token
text_member name text = key name ∷ string text ∷ []

-- the element, the direction and the vehicle type
abbrev pub subject_tokens : ℕ → Direction → ℕ → List Token
subject_tokens element direction vehicle =
    number_member (codes "element") element
    ++ (text_member (codes "direction") (direction_word direction) ++ number_member (codes "vehicle") vehicle)

-- whether it is open, until when, and the rows that close it
abbrev pub state_tokens : State → List Token
state_tokens state =
    text_member (codes "state") (state_word state.is_open)
    ++ ((key (codes "until") ∷ json_tokens (change_value state.change))
    ++ (key (codes "rows") ∷ json_tokens (array (row_items state.rows))))
