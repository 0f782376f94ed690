-- Rows that have the same holidays.
use Rattle.std.specs.Prelude.{◌⊎◌, List, [], ◌∷◌, ℤ, ◌≤ℤ◌}
use Rattle.gtd_hours_holidays.specs.Table.{IsHoliday}
use Rattle.gtd_hours_holidays.specs.declared.row.HolidayKind.{HolidayKind}
use Rattle.gtd_hours_holidays.specs.declared.row.HolidayRow.{HolidayRow}
use Rattle.gtd_hours_holidays.specs.declared.run.Run.{Run}

-- the day is in one of the runs
abbrev pub IsInRuns : List Run → ℤ → Type 0
IsInRuns [] n = ⊥
IsInRuns (run ∷ runs) n = ((run.first ≤ℤ n) × (n ≤ℤ run.last)) ⊎ IsInRuns runs n

-- A day that is no holiday by the one is none by the other. So a holiday by the one, which can be decided, is one by the other.
abbrev pub AreSameHolidays : List HolidayRow → List HolidayRow → Type 0
AreSameHolidays rows others =
    (kind : HolidayKind) (n : ℤ)
    → ((IsHoliday rows kind n → ⊥) → IsHoliday others kind n → ⊥) × ((IsHoliday others kind n → ⊥) → IsHoliday rows kind n → ⊥)
