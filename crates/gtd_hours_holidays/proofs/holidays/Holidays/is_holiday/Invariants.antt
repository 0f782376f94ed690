use Rattle.std.proofs.Common.{take, false}
use Rattle.gtd_hours_holidays.specs.Table.{IsOfRows}
use Rattle.gtd_hours_holidays.proofs.holidays.Holidays.is_holiday.Given as goal

-- no row so far says so
abbrev pub invariant-loop-row : goal.invariant-loop-row
invariant-loop-row l = IsOfRows l.kind false l.fn.day (take l.row-index l.self.rows.items) → ⊥
