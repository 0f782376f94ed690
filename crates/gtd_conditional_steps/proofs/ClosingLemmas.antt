-- Steps close an element when the sayings do whose steps they are.
use Rattle.std.proofs.Common.{◌∙◌, ◌↔◌, ℕ, ℤ, List, [], ◌∷◌, sym, inl, inr}
use Rattle.gtd_rows.specs.declared.direction.Direction.{Direction}
use Rattle.gtd_conditional_means.specs.declared.meaning.MeansRow.{MeansRow}
use Rattle.gtd_conditional_rows.specs.Steps.{IsClosed, NoneApplies}
use Rattle.gtd_conditional_rows.specs.Types.{IsVehicle}
use Rattle.gtd_conditional_rows.specs.declared.step.Step.{Step}
use Rattle.gtd_conditional_steps.specs.Closing.{IsClosedBy, NoSayingApplies}
use Rattle.gtd_conditional_steps.specs.Sayings.{Saying}
use Rattle.gtd_conditional_steps.specs.Steps.{AreStepsOf}

module _ (rows : List MeansRow) (direction : Direction) (t : ℕ) (s : ℤ) (is : IsVehicle t) where
  none_applies : (sayings : List Saying) (steps : List Step) → AreStepsOf rows direction sayings steps → NoneApplies steps t s
      → NoSayingApplies rows sayings t s
  none_applies [] [] are none = tt
  none_applies [] (step ∷ steps) are none = absurd are
  none_applies (saying ∷ later) [] are none = absurd are
  none_applies (saying ∷ later) (step ∷ steps) are none =
      ((λ h. none.0 ((are.0.applies t s is).1 h)), none_applies later steps are.1 none.1)

  none_said : (sayings : List Saying) (steps : List Step) → AreStepsOf rows direction sayings steps
      → NoSayingApplies rows sayings t s → NoneApplies steps t s
  none_said [] [] are none = tt
  none_said [] (step ∷ steps) are none = absurd are
  none_said (saying ∷ later) [] are none = absurd are
  none_said (saying ∷ later) (step ∷ steps) are none =
      ((λ h. none.0 ((are.0.applies t s is).0 h)), none_said later steps are.1 none.1)

  closed_by : (sayings : List Saying) (steps : List Step) → AreStepsOf rows direction sayings steps → IsClosed steps t s
      → IsClosedBy rows direction sayings t s
  closed_by [] [] are closed = absurd closed
  closed_by [] (step ∷ steps) are closed = absurd are
  closed_by (saying ∷ later) [] are closed = absurd are
  closed_by (saying ∷ later) (step ∷ steps) are (inl h) =
      inl (sym are.0.access ∙ h.0, (are.0.applies t s is).0 h.1, none_applies later steps are.1 h.2)
  closed_by (saying ∷ later) (step ∷ steps) are (inr h) = inr (closed_by later steps are.1 h)

  by_closed : (sayings : List Saying) (steps : List Step) → AreStepsOf rows direction sayings steps
      → IsClosedBy rows direction sayings t s → IsClosed steps t s
  by_closed [] [] are closed = absurd closed
  by_closed [] (step ∷ steps) are closed = absurd are
  by_closed (saying ∷ later) [] are closed = absurd are
  by_closed (saying ∷ later) (step ∷ steps) are (inl h) =
      inl (are.0.access ∙ h.0, (are.0.applies t s is).1 h.1, none_said later steps are.1 h.2)
  by_closed (saying ∷ later) (step ∷ steps) are (inr h) = inr (by_closed later steps are.1 h)

  pub same_closed : (sayings : List Saying) (steps : List Step) → AreStepsOf rows direction sayings steps
      → IsClosed steps t s ↔ IsClosedBy rows direction sayings t s
  same_closed sayings steps are = (closed_by sayings steps are, by_closed sayings steps are)
