use Rattle.std.proofs.Common.{◌≡◌, ◌<◌, ℕ, length}
use Rattle.std.specs.Prelude.{slice_index_or}
use Rattle.gtd_conditional_rows.specs.Kept.{IsKept}
use Rattle.gtd_conditional_rows.specs.Types.{IsVehicle}
use Rattle.gtd_conditional_rows.specs.declared.kept.Kept.{Kept}
use Rattle.gtd_conditional_rows.proofs.kept.kept_timings.Given as goal

-- what is kept of the types so far
abbrev pub invariant-loop-vehicle : goal.invariant-loop-vehicle
invariant-loop-vehicle l =
    (length l.kept.items ≡ l.vehicle)
    × ((t : ℕ) (d : Kept) → IsVehicle t → t < l.vehicle → IsKept l.steps t (slice_index_or l.kept.items t d))
