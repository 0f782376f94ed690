use Rattle.std.proofs.Common.{◌≡◌, ◌↔◌, ◌⊎◌, ℤ, ◌-ℤ◌, take}
use Rattle.gtd_hours_holidays.specs.Days.{IsIn}
use Rattle.gtd_hours_days.specs.Listed.{IsKnownHoliday}
use Rattle.gtd_hours_days.proofs.additions.add_holidays.Given as goal

-- the days of the rows so far are added
abbrev pub invariant-loop-row : goal.invariant-loop-row
invariant-loop-row l = record {
  begins : l.days.first ≡ l.fn.days.first;
  added : (n : ℤ) → IsIn l.days n
      ↔ (IsIn l.fn.days n ⊎ IsKnownHoliday (take l.row-index l.rows) l.years l.kind (n -ℤ l.offset.days));
}
