-- Steps that do what tags say.
use Rattle.std.specs.Prelude.{◌≡◌, ◌↔◌, ⊤, ℕ, ℤ, List, [], ◌∷◌, ◌++◌}
use Rattle.gtd_rows.specs.declared.direction.Direction.{Direction}
use Rattle.gtd_conditional_means.specs.declared.meaning.MeansRow.{MeansRow}
use Rattle.gtd_conditional_parts.specs.Names.{access_in}
use Rattle.gtd_conditional_rows.specs.Steps.{Applies}
use Rattle.gtd_conditional_rows.specs.Types.{IsVehicle}
use Rattle.gtd_conditional_rows.specs.declared.step.Step.{Step}
use Rattle.gtd_conditional_steps.specs.Closing.{SayingApplies}
use Rattle.gtd_conditional_steps.specs.Sayings.{Saying}

module _ (rows : List MeansRow) (direction : Direction) where
  -- the step says what the saying does of the direction, for the same types at the same seconds
  pub record IsStepOf (saying : Saying) (step : Step) : Type 0 where
    pub access : step.access ≡ access_in saying.part.said direction
    pub applies : (t : ℕ) → (s : ℤ) → IsVehicle t → Applies step t s ↔ SayingApplies rows saying t s

  -- one step for each saying
  abbrev pub AreStepsOf : List Saying → List Step → Type 0
  AreStepsOf [] [] = ⊤
  AreStepsOf [] (step ∷ steps) = ⊥
  AreStepsOf (saying ∷ later) [] = ⊥
  AreStepsOf (saying ∷ later) (step ∷ steps) = IsStepOf saying step × AreStepsOf later steps

  -- steps for the sayings were added
  abbrev pub Adds : List Saying → List Step → List Step → Type 0
  Adds sayings before after = (steps : List Step) × (after ≡ before ++ steps) × AreStepsOf sayings steps
