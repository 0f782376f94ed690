use Rattle.std.proofs.Common.{◌↔◌, ◌<◌, ℕ, IsTrue}
use Rattle.gtd_conditional_rows.specs.Types.{HasType, IsVehicle}
use Rattle.gtd_conditional_rows.proofs.types.Types.are_in.Given as goal

-- whether the types so far are in the other set
abbrev pub invariant-loop-vehicle : goal.invariant-loop-vehicle
invariant-loop-vehicle l =
    IsTrue l.all ↔ ((t : ℕ) → IsVehicle t → t < l.vehicle → HasType l.self t → HasType l.other t)
