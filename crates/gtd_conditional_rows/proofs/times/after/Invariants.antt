use Rattle.std.proofs.Common.{◌≡◌, length}
use Rattle.gtd_conditional_rows.specs.Times.{Never, times_after}
use Rattle.gtd_conditional_rows.specs.Timing.{times_in}
use Rattle.gtd_conditional_rows.proofs.times.after.Given as goal

-- what the steps that are left make of the times so far
abbrev pub invariant-loop-step : goal.invariant-loop-step
invariant-loop-step l = times_after l.rest l.vehicle (times_in l.times) ≡ times_after l.steps l.vehicle Never

abbrev pub decreases-loop-step : goal.decreases-loop-step
decreases-loop-step l = length l.rest
