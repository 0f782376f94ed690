-- What two record files say differently: when each road element that either names was opened or closed, over the days of a
-- horizon and for a vehicle type. The LF is the last byte of each line.
use Rattle.std.specs.Prelude.{◌≡◌, ◌++◌, ◌↔◌, ℕ, ℤ, ◌<ℤ◌, List, [], ◌∷◌, map, codes, decimal}
use Rattle.gtd_core.specs.Seconds.{Interval, Within}
use Rattle.gtd_core.specs.Whole.{whole}
use Rattle.gtd_core.specs.declared.horizon.Horizon.{Horizon}
use Rattle.gtd_calendar.specs.Stamp.{stamp_text}
use Rattle.gtd_eval.specs.Membership.{IsNormalOver}
use Rattle.gtd_records.specs.Closing.{IsClosed, IsOpen, Restriction}
use Rattle.gtd_rows.specs.declared.direction.Direction.{Direction}
use Rattle.gtd_report.specs.Putting.{IsByElement, direction_word}
use Rattle.gtd_changes.specs.declared.change.Change.{Change}
use Rattle.gtd_changes.specs.declared.change.Change.TheVariants.{Opened, Closed}

-- the header line
abbrev pub header_line : List ℕ
header_line = codes "element,direction,vehicle,change,from,until\n"

-- the word for what happened at the seconds of a change
abbrev pub change_word : Change → List ℕ
change_word (Opened span) = codes "opened"
change_word (Closed span) = codes "closed"

abbrev pub span_of : Change → Interval
span_of (Opened span) = span
span_of (Closed span) = span

-- The line of a change: the first second of its interval, and the first second after it.
abbrev pub change_line : ℕ → Direction → ℕ → Change → List ℕ
change_line element direction vehicle change =
    decimal element ++ codes "," ++ direction_word direction ++ codes "," ++ decimal vehicle ++ codes ","
    ++ change_word change ++ codes "," ++ stamp_text (span_of change).from ++ codes "," ++ stamp_text (span_of change).until
    ++ codes "\n"

-- the intervals that were opened, and those that were closed
abbrev pub opened_in : List Change → List Interval
opened_in [] = []
opened_in (Opened span ∷ changes) = span ∷ opened_in changes
opened_in (Closed span ∷ changes) = opened_in changes

abbrev pub closed_in : List Change → List Interval
closed_in [] = []
closed_in (Opened span ∷ changes) = closed_in changes
closed_in (Closed span ∷ changes) = span ∷ closed_in changes

-- each change begins after the second
abbrev pub AllChangeAfter : ℤ → List Change → Type 0
AllChangeAfter second [] = Unit {0}
AllChangeAfter second (change ∷ changes) = (second <ℤ (span_of change).from) × AllChangeAfter second changes

-- each change begins before every later one
abbrev pub BeginInTurn : List Change → Type 0
BeginInTurn [] = Unit {0}
BeginInTurn (change ∷ changes) = AllChangeAfter (span_of change).from changes × BeginInTurn changes

module _ (old new : List Restriction) where
  -- At the second, some restriction of the old file closes the element, and none of the new file does.
  abbrev pub WasOpened : ℕ → Direction → ℕ → ℤ → Type 0
  WasOpened element direction vehicle second =
      IsClosed old element direction vehicle second × IsOpen new element direction vehicle second

  -- The other way round.
  abbrev pub WasClosed : ℕ → Direction → ℕ → ℤ → Type 0
  WasClosed element direction vehicle second =
      IsOpen old element direction vehicle second × IsClosed new element direction vehicle second

  module _ (vehicle : ℕ) (horizon : Horizon) where
    -- The lines of an element in a direction, one for each change, by their first seconds: those that were opened are the normal
    -- list of the seconds of the horizon at which it was opened, and those that were closed that of those at which it was closed.
    pub record AreLines (element : ℕ) (direction : Direction) (lines : List (List ℕ)) : Type 0 where
      pub changes : List Change
      pub opened : IsNormalOver (WasOpened element direction vehicle) horizon (opened_in changes)
      pub closed : IsNormalOver (WasClosed element direction vehicle) horizon (closed_in changes)
      pub order : BeginInTurn changes
      pub each : lines ≡ map (change_line element direction vehicle) changes

    -- The header, and the lines of each element that a restriction of either file names, in ascending order and positive
    -- before negative.
    abbrev pub IsChanges : List (List ℕ) → Type 0
    IsChanges = IsByElement (old ++ new) (codes "element,direction,vehicle,change,from,until\n") AreLines

    -- Both close each element in each direction at the same seconds of the horizon.
    abbrev pub AgreeOver : Type 0
    AgreeOver = (element : ℕ) (direction : Direction) (second : ℤ) → Within (whole horizon) second
        → IsClosed old element direction vehicle second ↔ IsClosed new element direction vehicle second
