use Rattle.std.proofs.Common.{◌≡◌, ◌<◌, ℕ}
use Rattle.gtd_conditional_rows.specs.Alike.{first_of}
use Rattle.gtd_conditional_rows.specs.Types.{IsVehicle, has_type}
use Rattle.gtd_conditional_rows.proofs.alike.are_as_kept.Given as goal

-- it is so of the types so far
abbrev pub invariant-loop-vehicle : goal.invariant-loop-vehicle
invariant-loop-vehicle l = (t : ℕ) → IsVehicle t → t < l.vehicle
    → has_type l.step.types (first_of l.alike t) ≡ has_type l.step.types t
