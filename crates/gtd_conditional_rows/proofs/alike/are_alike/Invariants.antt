use Rattle.std.proofs.Common.{◌≡◌, ℕ, length}
use Rattle.gtd_conditional_rows.specs.Alike.{first_of}
use Rattle.gtd_conditional_rows.specs.Times.{Times, times_after}
use Rattle.gtd_conditional_rows.specs.Types.{IsVehicle}
use Rattle.gtd_conditional_rows.proofs.alike.are_alike.Given as goal

-- if the steps that are left do the same to both types, all steps do
abbrev pub invariant-loop-step : goal.invariant-loop-step
invariant-loop-step l =
    (t : ℕ) → IsVehicle t
    → ((times : Times) → times_after l.rest (first_of l.alike t) times ≡ times_after l.rest t times)
    → (times : Times) → times_after l.steps (first_of l.alike t) times ≡ times_after l.steps t times

abbrev pub decreases-loop-step : goal.decreases-loop-step
decreases-loop-step l = length l.rest
