use Rattle.std.proofs.Common.{◌≡◌, ◌↔◌, ◌<◌, ℕ}
use Rattle.gtd_conditional_rows.specs.Times.{times_of}
use Rattle.gtd_conditional_rows.specs.Timing.{domain_times}
use Rattle.gtd_conditional_rows.specs.Types.{HasType, IsVehicle}
use Rattle.gtd_conditional_rows.proofs.groups.types_like.Given as goal

-- the types so far
abbrev pub invariant-loop-other : goal.invariant-loop-other
invariant-loop-other l = (t : ℕ) → IsVehicle t
    → HasType l.types t ↔ ((t < l.other) × (times_of l.side.steps.now t ≡ domain_times l.domain))
