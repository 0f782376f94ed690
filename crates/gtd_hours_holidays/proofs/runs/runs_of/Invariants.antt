use Rattle.std.proofs.Common.{pos, ◌+ℤ◌, ◌-ℤ◌, ◌≤ℤ◌, unsigned_abs}
use Rattle.gtd_core.specs.Limits.{first_calendar_day, last_calendar_day}
use Rattle.gtd_hours_holidays.proofs.RunFacts.{AreJoined}
use Rattle.gtd_hours_holidays.proofs.runs.runs_of.Given as goal

-- with the runs from this day on, the runs so far are all
abbrev pub invariant-loop-from : goal.invariant-loop-from
invariant-loop-from l = record {
  low : first_calendar_day ≤ℤ l.from;
  high : l.from ≤ℤ (last_calendar_day +ℤ pos 1);
  joins : AreJoined l.days l.from l.runs.items;
}

-- a day is passed in each turn
abbrev pub decreases-loop-from : goal.decreases-loop-from
decreases-loop-from l = unsigned_abs ((last_calendar_day +ℤ pos 1) -ℤ l.from)
