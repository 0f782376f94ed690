-- Cursors that elements share, since they are open at the same seconds.
use Rattle.std.specs.Prelude.{◌≡◌, ◌<◌, ◌⊎◌, ◌++◌, ℕ, zero, suc, List, [], ◌∷◌, length, map, slice_set}
use Rattle.gtd_core.specs.Seconds.{Interval}
use Rattle.gtd_eval.specs.Cursors.{cursor_whole, IsAtStart}
use Rattle.gtd_eval.specs.Membership.{IsNormalOver}
use Rattle.gtd_records.specs.Closing.{IsOpen, Restriction}
use Rattle.gtd_rows.specs.declared.direction.DirectedElement.{DirectedElement}
use Rattle.gtd_schedule.specs.declared.cursors.OpenCursor.{OpenCursor}
use Rattle.gtd_schedule.specs.declared.cursors.OpenCursors.{OpenCursors}
use Rattle.gtd_schedule.specs.declared.run.Schedule.{Schedule}

-- a cursor's element and direction, and its whole list, whatever of it was handed out
pub record WholeList : Type 0 where
  pub at : DirectedElement
  pub spans : List Interval

abbrev pub whole_of : OpenCursor → WholeList
whole_of opened = record { at = opened.at; spans = cursor_whole opened.cursor }

-- the same of all cursors, in their order
abbrev pub wholes : OpenCursors → List WholeList
wholes cursors = map whole_of cursors.list.items

-- the cursor with this number still has its whole list to hand out
abbrev pub IsStarted : List OpenCursor → ℕ → Type 0
IsStarted [] n = ⊥
IsStarted (opened ∷ more) zero = IsAtStart opened.cursor
IsStarted (opened ∷ more) (suc n) = IsStarted more n

-- the cursor was stored in place of the one with this number, or after all others
abbrev pub IsStored : List OpenCursor → OpenCursor → ℕ → List OpenCursor → Type 0
IsStored before opened n after =
    ((n < length before) × (after ≡ slice_set before n opened)) ⊎ ((n ≡ length before) × (after ≡ before ++ opened ∷ []))

module _ (found : List Restriction) (schedule : Schedule) where
  -- the list is normal for the seconds of the horizon at which the element is open in the direction
  abbrev pub AreOpenSeconds : DirectedElement → List Interval → Type 0
  AreOpenSeconds at spans = IsNormalOver (IsOpen found at.element at.direction schedule.vehicle) schedule.horizon spans

  -- each whole list is that of its element
  abbrev pub AreRight : List WholeList → Type 0
  AreRight [] = Unit {0}
  AreRight (whole ∷ more) = AreOpenSeconds whole.at whole.spans × AreRight more

  -- the whole list with this number is that of the element in the direction
  abbrev pub IsOf : DirectedElement → List WholeList → ℕ → Type 0
  IsOf at [] n = ⊥
  IsOf at (whole ∷ more) zero = AreOpenSeconds at whole.spans
  IsOf at (whole ∷ more) (suc n) = IsOf at more n
