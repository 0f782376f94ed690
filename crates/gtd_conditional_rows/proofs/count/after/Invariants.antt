use Rattle.std.proofs.Common.{◌≡◌, length}
use Rattle.gtd_conditional_rows.specs.Times.{size_after}
use Rattle.gtd_conditional_rows.specs.declared.count.Size.TheVariants as size
use Rattle.gtd_conditional_rows.proofs.count.after.Given as goal

-- what the steps that are left make of the count so far
abbrev pub invariant-loop-step : goal.invariant-loop-step
invariant-loop-step l = size_after l.rest l.vehicle l.size ≡ size_after l.steps l.vehicle size.Never

abbrev pub decreases-loop-step : goal.decreases-loop-step
decreases-loop-step l = length l.rest
