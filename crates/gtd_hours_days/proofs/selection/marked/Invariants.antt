use Rattle.std.proofs.Common.{◌↔◌, ℤ, take}
use Rattle.gtd_hours_holidays.specs.Days.{IsIn}
use Rattle.gtd_hours_days.specs.Beginning.{IsBegun}
use Rattle.gtd_hours_days.specs.Listed.{SomeListed}
use Rattle.gtd_hours_days.proofs.selection.marked.Given as goal

-- the days of the selectors so far
abbrev pub invariant-loop-place : goal.invariant-loop-place
invariant-loop-place l = record {
  begun : IsBegun l.days.first l.years;
  days : (n : ℤ) → IsIn l.days n ↔ SomeListed l.rows l.years (take l.place l.listed) n;
}
