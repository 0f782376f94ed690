-- For how many seconds each element that differs is open by one record file and by another.
use Rattle.std.specs.Prelude.{◌≡◌, ◌++◌, ◌⊎◌, ℕ, ℤ, pos, ◌+ℤ◌, List, [], ◌∷◌, codes, decimal}
use Rattle.gtd_core.specs.Seconds.{Within}
use Rattle.gtd_core.specs.Whole.{whole}
use Rattle.gtd_core.specs.declared.horizon.Horizon.{Horizon}
use Rattle.gtd_records.specs.Closing.{IsOpen, Restriction}
use Rattle.gtd_rows.specs.declared.direction.Direction.{Direction}
use Rattle.gtd_report.specs.Putting.{direction_word}
use Rattle.gtd_spans.specs.Counting.{IsCount}
use Rattle.gtd_changes.specs.Changes.{WasClosed, WasOpened}

-- the header line
abbrev pub summary_header : List ℕ
summary_header = codes "element,direction,vehicle,old_seconds,new_seconds\n"

-- the line of an element in a direction, with the seconds in which it is open by the old file and by the new one
abbrev pub summary_line : ℕ → Direction → ℕ → ℕ → ℕ → List ℕ
summary_line element direction vehicle old_seconds new_seconds =
    decimal element ++ codes "," ++ direction_word direction ++ codes "," ++ decimal vehicle ++ codes ","
    ++ decimal old_seconds ++ codes "," ++ decimal new_seconds ++ codes "\n"

-- So many seconds of the horizon, counted one by one, are in the set.
pub record HasSeconds (horizon : Horizon) (set : ℤ → Type 0) (count : ℕ) : Type 0 where
  pub all : ℕ
  pub end : (whole horizon).from +ℤ pos all ≡ (whole horizon).until
  pub counted : IsCount set (whole horizon).from all count

module _ (old new : List Restriction) (vehicle : ℕ) (horizon : Horizon) (element : ℕ) (direction : Direction) where
  -- At some second of the horizon it was opened or closed.
  abbrev pub Differs : Type 0
  Differs = (second : ℤ) × Within (whole horizon) second
      × (WasOpened old new element direction vehicle second ⊎ WasClosed old new element direction vehicle second)

  -- The line of the element in the direction: the seconds of the horizon in which no row of either file closes it.
  pub record IsSummaryLine (line : List ℕ) : Type 0 where
    pub old_seconds : ℕ
    pub new_seconds : ℕ
    pub of_old : HasSeconds horizon (IsOpen old element direction vehicle) old_seconds
    pub of_new : HasSeconds horizon (IsOpen new element direction vehicle) new_seconds
    pub text : line ≡ summary_line element direction vehicle old_seconds new_seconds

  -- Its lines: the one, if it differs, and otherwise none.
  pub data AreSummaryLines (lines : List (List ℕ)) : Type 0 where
    differing : Differs → (line : List ℕ) → IsSummaryLine line → lines ≡ line ∷ [] → AreSummaryLines lines
    same : (Differs → ⊥) → lines ≡ [] → AreSummaryLines lines
