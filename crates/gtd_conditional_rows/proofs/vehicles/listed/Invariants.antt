use Rattle.std.proofs.Common.{◌≡◌, ◌↔◌, ◌<◌, ℕ}
use Rattle.std.specs.Prelude.{slice_index_or}
use Rattle.gtd_conditional_rows.specs.Types.{HasType, IsVehicle}
use Rattle.gtd_conditional_rows.proofs.vehicles.listed.Given as goal

-- the types of the codes so far
abbrev pub invariant-loop-code : goal.invariant-loop-code
invariant-loop-code l = (t : ℕ) → IsVehicle t
    → HasType l.types t ↔ ((k : ℕ) × (k < l.code-index) × (slice_index_or l.codes k t ≡ t))
