-- Runs of consecutive days.
use Rattle.std.specs.Prelude.{List, [], ◌∷◌, ℤ, pos, ◌+ℤ◌, ◌≤ℤ◌}
use Rattle.gtd_core.specs.Limits.{last_calendar_day}
use Rattle.gtd_calendar.specs.Calendar.{IsCalendarDay}
use Rattle.gtd_hours_holidays.specs.Days.{AreAll, AreNone, IsFirst, IsIn}
use Rattle.gtd_hours_holidays.specs.declared.days.Days.{Days}
use Rattle.gtd_hours_holidays.specs.declared.run.Run.{Run}

-- from the first day to the last all days are in the set, and the next one is not
pub record IsRunEnd (days : Days) (first last : ℤ) : Type 0 where
  pub day : IsCalendarDay last
  pub order : first ≤ℤ last
  pub each : AreAll (IsIn days) first last
  pub ends : IsIn days (last +ℤ pos 1) → ⊥

-- the first run of a set from a day on
pub record IsNextRun (days : Days) (from : ℤ) (run : Run) : Type 0 where
  pub first : IsFirst (IsIn days) from last_calendar_day run.first
  pub last : IsRunEnd days run.first run.last

-- the runs of a set from a day on, in order
abbrev pub AreRuns : Days → ℤ → List Run → Type 0
AreRuns days from [] = AreNone (IsIn days) from last_calendar_day
AreRuns days from (run ∷ runs) = IsNextRun days from run × AreRuns days (run.last +ℤ pos 1) runs
