-- States as JSON (RFC 8259), in the words of the kit's crate `json`: values, and the text of a value without spaces.
use Rattle.std.specs.Prelude.{◌++◌, ◌<◌, ◌^◌, ⊤, ℕ, ℤ, Bool, true, false, List, [], ◌∷◌, Option, Some, None, codes, decimal}
use Rattle.gtd_calendar.specs.Stamp.{stamp_text}
use Rattle.gtd_core.specs.Trees.{Tree}
use Rattle.gtd_records.specs.Closing.{Restriction}
use Rattle.gtd_rows.specs.declared.direction.Direction.{Direction}
use Rattle.gtd_report.specs.Putting.{direction_word}
use Rattle.gtd_states.specs.Lines.{state_word}
use Rattle.gtd_states.specs.States.{State}
use Rattle.json.specs.Json.{Json, null, number, string, array, object, Items, no_items, item, Members, no_members, member}
use Rattle.json.specs.Print.{print}
use Rattle.json.specs.Tree.{json_tokens}
use Rattle.gtd_now.specs.Reasons.{domain_text, domain_words, row_domain, row_line}

-- the moment of a change, or null if there is none
abbrev pub change_value : Option ℤ → Json
change_value None = null
change_value (Some second) = string (stamp_text second)

-- numbers, in their order
abbrev pub row_items : List ℕ → Items
row_items [] = no_items
row_items (row ∷ rows) = item (number (decimal row)) (row_items rows)

-- each of them fits 64 bits
abbrev pub AreRowNumbers : List ℕ → Type 0
AreRowNumbers [] = ⊤
AreRowNumbers (row ∷ rows) = (row < 2 ^ 64) × AreRowNumbers rows

-- what is told of a row: its line, its number, the text of its domain, and its words
abbrev pub reason_value : ℕ → ℕ → Option Tree → Json
reason_value line row domain =
    object (member (codes "line") (number (decimal line)) (member (codes "row") (number (decimal row))
    (member (codes "domain") (string (domain_text domain)) (member (codes "words") (string (domain_words domain)) no_members))))

abbrev pub reason_items : List ℕ → List Restriction → List ℕ → Items
reason_items lines found [] = no_items
reason_items lines found (row ∷ rows) =
    item (reason_value (row_line lines row) row (row_domain found row)) (reason_items lines found rows)

-- the last member, if the rows are told
abbrev pub why_members : Bool → List ℕ → List Restriction → List ℕ → Members
why_members false lines found rows = no_members
why_members true lines found rows = member (codes "why") (array (reason_items lines found rows)) no_members

-- the fields of a line, by their names
abbrev pub state_value : Bool → List ℕ → List Restriction → ℕ → Direction → ℕ → State → Json
state_value why lines found element direction vehicle state =
    object (member (codes "element") (number (decimal element)) (member (codes "direction") (string (direction_word direction))
    (member (codes "vehicle") (number (decimal vehicle)) (member (codes "state") (string (state_word state.is_open))
    (member (codes "until") (change_value state.change) (member (codes "rows") (array (row_items state.rows))
    (why_members why lines found state.rows)))))))

-- the line of a value
abbrev pub json_line : Json → List ℕ
json_line value = print (json_tokens value) ++ codes "\n"
