use Rattle.std.proofs.Common.{◌≡◌, ◌<◌, ℕ, length}
use Rattle.std.specs.Prelude.{slice_index_or}
use Rattle.gtd_conditional_rows.specs.Types.{IsVehicle}
use Rattle.gtd_conditional_rows.proofs.alike.each_itself.Given as goal

-- the types so far
abbrev pub invariant-loop-vehicle : goal.invariant-loop-vehicle
invariant-loop-vehicle l =
    (length l.first ≡ 100) × ((t : ℕ) → IsVehicle t → t < l.vehicle → slice_index_or l.first t 0 ≡ t)
