-- The changes from one record file to another, with the rows of either that close the element when one begins.
use Rattle.std.specs.Prelude.{◌≡◌, ◌++◌, ℕ, List, [], ◌∷◌, flat_map, codes, decimal}
use Rattle.gtd_core.specs.declared.horizon.Horizon.{Horizon}
use Rattle.gtd_calendar.specs.Stamp.{stamp_text}
use Rattle.gtd_eval.specs.Membership.{IsNormalOver}
use Rattle.gtd_records.specs.Closing.{Restriction}
use Rattle.gtd_records.specs.ClosingRows.{AreClosingRows}
use Rattle.gtd_rows.specs.declared.direction.Direction.{Direction}
use Rattle.gtd_report.specs.Putting.{direction_word}
use Rattle.gtd_changes.specs.Changes.{BeginInTurn, WasClosed, WasOpened, change_word, closed_in, opened_in, span_of}
use Rattle.gtd_changes.specs.declared.change.Change.{Change}

-- the header line
abbrev pub rows_header : List ℕ
rows_header = codes "element,direction,vehicle,change,from,until,old_rows,new_rows\n"

-- numbers in their order, with spaces between them
abbrev pub numbers_text : List ℕ → List ℕ
numbers_text [] = []
numbers_text (first ∷ rest) = decimal first ++ flat_map (λ other. codes " " ++ decimal other) rest

-- What the line of a change has before the comma or the LF behind its last moment.
abbrev pub change_start : ℕ → Direction → ℕ → Change → List ℕ
change_start element direction vehicle change =
    decimal element ++ codes "," ++ direction_word direction ++ codes "," ++ decimal vehicle ++ codes ","
    ++ change_word change ++ codes "," ++ stamp_text (span_of change).from ++ codes "," ++ stamp_text (span_of change).until

-- The line of a change with rows of the old file and rows of the new one.
abbrev pub rows_line : ℕ → Direction → ℕ → Change → List ℕ → List ℕ → List ℕ
rows_line element direction vehicle change old_rows new_rows =
    change_start element direction vehicle change ++ codes "," ++ numbers_text old_rows ++ codes "," ++ numbers_text new_rows
    ++ codes "\n"

module _ (old new : List Restriction) where
  module _ (vehicle : ℕ) (element : ℕ) (direction : Direction) where
    -- The line of a change: exactly these rows of the old file, and these of the new one, close the element at its first second.
    pub record IsRowsLine (change : Change) (line : List ℕ) : Type 0 where
      pub old_rows : List ℕ
      pub new_rows : List ℕ
      pub of_old : AreClosingRows old element direction vehicle (span_of change).from old_rows
      pub of_new : AreClosingRows new element direction vehicle (span_of change).from new_rows
      pub text : line ≡ rows_line element direction vehicle change old_rows new_rows

    -- the lines of changes, in their order
    abbrev pub AreEach : List Change → List (List ℕ) → Type 0
    AreEach [] lines = lines ≡ []
    AreEach (change ∷ changes) lines =
        (line : List ℕ) × (rest : List (List ℕ)) × IsRowsLine change line × AreEach changes rest × (lines ≡ line ∷ rest)

  -- The lines of an element in a direction: those of the same changes as without the rows.
  pub record AreRowsLines (vehicle : ℕ) (horizon : Horizon) (element : ℕ) (direction : Direction) (lines : List (List ℕ)) : Type 0
    where
      pub changes : List Change
      pub opened : IsNormalOver (WasOpened old new element direction vehicle) horizon (opened_in changes)
      pub closed : IsNormalOver (WasClosed old new element direction vehicle) horizon (closed_in changes)
      pub order : BeginInTurn changes
      pub each : AreEach vehicle element direction changes lines
