-- How far rows cover days.
use Rattle.std.specs.Prelude.{◌≡◌, ◌⊎◌, true, List, ℤ, pos, ◌+ℤ◌, ◌≤ℤ◌, ◌<ℤ◌}
use Rattle.gtd_core.specs.Limits.{last_calendar_day}
use Rattle.gtd_hours_holidays.specs.Table.{IsCovered, IsOfRow}
use Rattle.gtd_hours_holidays.specs.declared.row.HolidayKind.{HolidayKind}
use Rattle.gtd_hours_holidays.specs.declared.row.HolidayRow.{HolidayRow}

-- each day from one on and before another is covered
abbrev pub AreCovered : List HolidayRow → HolidayKind → ℤ → ℤ → Type 0
AreCovered rows kind day until = (n : ℤ) → day ≤ℤ n → n <ℤ until → IsCovered rows kind n

-- the days up to there are covered, and in the calendar
pub record IsCoveredUntil (rows : List HolidayRow) (kind : HolidayKind) (day until : ℤ) : Type 0 where
  pub order : day ≤ℤ until
  pub near : until ≤ℤ (last_calendar_day +ℤ pos 1)
  pub each : AreCovered rows kind day until

-- the row covers the day reached, and the next one to look at is the day after its last; or it does not
abbrev pub IsAfterRow : HolidayKind → HolidayRow → ℤ → ℤ → Type 0
IsAfterRow kind row until next =
    (IsOfRow kind true until row × (next ≡ row.last +ℤ pos 1)) ⊎ ((IsOfRow kind true until row → ⊥) × (next ≡ until))
