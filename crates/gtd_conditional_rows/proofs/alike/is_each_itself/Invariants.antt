use Rattle.std.proofs.Common.{◌≡◌, ◌<◌, ℕ}
use Rattle.gtd_conditional_rows.specs.Alike.{first_of}
use Rattle.gtd_conditional_rows.specs.Types.{IsVehicle}
use Rattle.gtd_conditional_rows.proofs.alike.is_each_itself.Given as goal

-- it is so of the types so far
abbrev pub invariant-loop-vehicle : goal.invariant-loop-vehicle
invariant-loop-vehicle l = (t : ℕ) → IsVehicle t → t < l.vehicle → first_of l.alike t ≡ t
