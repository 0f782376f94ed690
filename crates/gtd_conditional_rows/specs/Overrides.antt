-- Steps without those that later ones override, as they have been found so far.
use Rattle.std.specs.Prelude.{◌≡◌, ◌≤◌, ℕ, List, drop, length, take}
use Rattle.gtd_conditional_rows.specs.Times.{Times, times_after}
use Rattle.gtd_conditional_rows.specs.Types.{HasType, IsVehicle}
use Rattle.gtd_conditional_rows.specs.declared.step.Step.{Step}
use Rattle.gtd_conditional_rows.specs.declared.types.Types.{Types}

-- From one place on, the steps do what all steps do from another place on, whatever was before; they leave nothing of it for the
-- types that are settled. The steps before are as they were.
pub record AreEffective (all steps : List Step) (place first : ℕ) (settled : Types) : Type 0 where
  pub before : place ≤ first
  pub inside : first ≤ length steps
  pub long : length steps ≡ length all
  pub front : take place steps ≡ take place all
  pub same : (t : ℕ) (times : Times) → IsVehicle t
      → times_after (drop first steps) t times ≡ times_after (drop place all) t times
  pub settles : (t : ℕ) (one other : Times) → IsVehicle t → HasType settled t
      → times_after (drop first steps) t one ≡ times_after (drop first steps) t other
