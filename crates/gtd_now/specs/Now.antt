-- The state of road elements at a moment, as a text in a form: of all elements, or of some of them.
use Rattle.std.specs.Prelude.{◌≡◌, ◌==◌, ◌++◌, ℕ, Bool, true, false, IfSome, IsTrue, List, [], ◌∷◌, Option}
use Rattle.std.specs.List.{list_any}
use Rattle.std.specs.List.Sorted.{IsNonDecreasing}
use Rattle.gtd_records.specs.Closing.{IsOpen, Restriction}
use Rattle.gtd_rows.specs.declared.direction.Direction.{Direction}
use Rattle.gtd_report.specs.Putting.{IsByElement}
use Rattle.gtd_lines.specs.Lines.{AreLinesOfRows}
use Rattle.gtd_states.specs.States.{IsState, State}
use Rattle.gtd_now.specs.Lines.{header_line, state_line}
use Rattle.gtd_now.specs.Objects.{json_line, state_value}
use Rattle.gtd_now.specs.Query.{Query}
use Rattle.gtd_now.specs.Reasons.{reasons}
use Rattle.gtd_now.specs.Table.{table_header, table_row}
use Rattle.gtd_now.specs.declared.asked.Form.{Form}
use Rattle.gtd_now.specs.declared.asked.Form.TheVariants as form

-- what a form begins with: JSON has no header
abbrev pub header_of : Form → List ℕ
header_of form.Lines = header_line
header_of form.Json = []
header_of form.Table = table_header

-- the lines of the rows that close an element, if they are told
abbrev pub told : Bool → List ℕ → List Restriction → List ℕ → List ℕ
told false lines found rows = []
told true lines found rows = reasons lines found rows

-- what is printed of a state
abbrev pub entry_in : Form → Bool → List ℕ → List Restriction → ℕ → Direction → ℕ → State → List ℕ
entry_in form.Lines why lines found element direction vehicle state =
    state_line element direction vehicle state ++ told why lines found state.rows
entry_in form.Json why lines found element direction vehicle state =
    json_line (state_value why lines found element direction vehicle state)
entry_in form.Table why lines found element direction vehicle state =
    table_row element direction state ++ told why lines found state.rows

-- Whether an element is one of those that are asked about. If none is named, all are.
abbrev pub is_wanted : List ℕ → ℕ → Bool
is_wanted [] element = true
is_wanted (first ∷ rest) element = list_any (λ wanted. wanted == element) (first ∷ rest)

-- the second list is in ascending order, and asks about the same elements
abbrev pub AreInOrder : List ℕ → List ℕ → Type 0
AreInOrder wanted ordered = IsNonDecreasing ordered × ((element : ℕ) → is_wanted ordered element ≡ is_wanted wanted element)

-- the lines that are told of a file's rows: none, if the rows are not told
abbrev pub AreToldLines : Bool → List ℕ → List ℕ → Type 0
AreToldLines false bytes lines = lines ≡ []
AreToldLines true bytes lines = AreLinesOfRows bytes lines

-- An element in a direction is printed: it is one of the elements that are asked about and, where closed ones alone are, it is
-- not open.
abbrev pub IsShown : List Restriction → Query → ℕ → Direction → Type 0
IsShown found query element direction =
    IsTrue (is_wanted query.wanted element)
    × (IsTrue query.closed → IsOpen found element direction query.vehicle query.second → ⊥)

module _ (lines : List ℕ) (found : List Restriction) (query : Query) where
  -- What is printed of an element in a direction: its state in the form that is asked for. It ends with a line feed.
  pub record IsEntry (element : ℕ) (direction : Direction) (entry : List ℕ) : Type 0 where
    pub state : State
    pub is : IsState found element direction query.vehicle query.second state
    pub whole : entry ≡ entry_in query.form query.why lines found element direction query.vehicle state

  -- Its entries: the one, if it is printed, and otherwise none.
  pub data AreEntries (element : ℕ) (direction : Direction) (entries : List (List ℕ)) : Type 0 where
    shown : IsShown found query element direction → (entry : List ℕ) → IsEntry element direction entry → entries ≡ entry ∷ []
        → AreEntries element direction entries
    hidden : (IsShown found query element direction → ⊥) → entries ≡ [] → AreEntries element direction entries

  -- What a form begins with, and the entries of each element that the restrictions name, in ascending order and positive before
  -- negative.
  abbrev pub IsShownNow : List (List ℕ) → Type 0
  IsShownNow = IsByElement found (header_of query.form) AreEntries

-- The text of a file with these bytes and these restrictions: where rows are told, each with the line on which it begins.
pub record IsNow (bytes : List ℕ) (found : List Restriction) (query : Query) (text : List (List ℕ)) : Type 0 where
  pub lines : List ℕ
  pub of_file : AreToldLines query.why bytes lines
  pub shown : IsShownNow lines found query text

-- The same of a file whose bytes may be known.
abbrev pub IsNowOf : Option (List ℕ) → List Restriction → Query → List (List ℕ) → Type 0
IsNowOf file found query text = IfSome file (λ bytes. IsNow bytes found query text)
