use Rattle.std.proofs.Common.{◌<◌, ℕ}
use Rattle.gtd_rows.specs.Serving.{Serves}
use Rattle.gtd_repeats.proofs.vehicles.serves_within.Given as goal

-- the types so far
abbrev pub invariant-loop-vehicle : goal.invariant-loop-vehicle
invariant-loop-vehicle l = (v : ℕ) → 0 < v → v < l.vehicle → Serves l.fn.vehicles v → Serves l.fn.other v
