use Rattle.std.proofs.Common.{◌≡◌, ◌↔◌, ℤ, take}
use Rattle.gtd_core.specs.Limits.{first_calendar_day}
use Rattle.gtd_hours_holidays.specs.Days.{IsIn}
use Rattle.gtd_hours_holidays.specs.Table.{IsOfRows}
use Rattle.gtd_hours_holidays.proofs.holidays.days_of.Given as goal

-- the days of the rows so far
abbrev pub invariant-loop-row : goal.invariant-loop-row
invariant-loop-row l = record {
  begins : l.days.first ≡ first_calendar_day;
  days : (n : ℤ) → IsIn l.days n ↔ IsOfRows l.kind l.covers n (take l.row-index l.rows);
}
