-- The days that are gone over are no earlier than the first one of the horizon.
use Rattle.std.specs.Prelude.{◌≤ℤ◌}
use Rattle.std.proofs.Common.{pos, ◌+ℤ◌, ◌-ℤ◌, unsigned_abs}
use Rattle.gtd_schedule.proofs.months.Months.of.Given as goal

abbrev pub invariant-loop-day : goal.invariant-loop-day
invariant-loop-day l = l.first ≤ℤ l.day

abbrev pub decreases-loop-day : goal.decreases-loop-day
decreases-loop-day l = unsigned_abs ((l.end +ℤ pos 12) -ℤ l.day)
