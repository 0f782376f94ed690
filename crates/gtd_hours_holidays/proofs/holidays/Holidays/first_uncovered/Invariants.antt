use Rattle.std.proofs.Common.{pos, ◌+ℤ◌, ◌-ℤ◌, unsigned_abs}
use Rattle.gtd_core.specs.Limits.{last_calendar_day}
use Rattle.gtd_hours_holidays.specs.Covering.{IsCoveredUntil}
use Rattle.gtd_hours_holidays.proofs.holidays.Holidays.first_uncovered.Given as goal

-- the days before this one are covered
abbrev pub invariant-loop-day : goal.invariant-loop-day
invariant-loop-day l = IsCoveredUntil l.self.rows.items l.kind l.from l.day

-- a day is passed in each turn
abbrev pub decreases-loop-day : goal.decreases-loop-day
decreases-loop-day l = unsigned_abs ((last_calendar_day +ℤ pos 1) -ℤ l.day)
