use Rattle.std.proofs.Common.{◌≡◌, ◌↔◌, ◌⊎◌, ◌<◌, ℕ, IsTrue, false, length}
use Rattle.std.specs.Prelude.{slice_index_or}
use Rattle.gtd_conditional_rows.specs.Types.{HasType, IsVehicle}
use Rattle.gtd_conditional_rows.proofs.types.Types.either.Given as goal

-- the types of either so far
abbrev pub invariant-loop-vehicle : goal.invariant-loop-vehicle
invariant-loop-vehicle l = record {
  long : length l.has ≡ 100;
  none : slice_index_or l.has 0 false ≡ false;
  types : (t : ℕ) → IsVehicle t
      → IsTrue (slice_index_or l.has t false) ↔ ((t < l.vehicle) × (HasType l.self t ⊎ HasType l.other t));
}
