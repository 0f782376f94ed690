use Rattle.std.proofs.Common.{◌<◌, ℕ}
use Rattle.gtd_core.specs.Limits.{most_basic_domains}
use Rattle.gtd_conditional_rows.specs.Times.{leaves_in, times_of}
use Rattle.gtd_conditional_rows.specs.Types.{IsVehicle}
use Rattle.gtd_conditional_rows.proofs.count.need_too_many.Given as goal

-- none so far needs too many
abbrev pub invariant-loop-vehicle : goal.invariant-loop-vehicle
invariant-loop-vehicle l = (t : ℕ) → IsVehicle t → t < l.vehicle → most_basic_domains < leaves_in (times_of l.steps t) → ⊥
