-- When steps close an element.
use Rattle.std.specs.Prelude.{◌≡◌, ◌⊎◌, ⊤, ℕ, ℤ, List, [], ◌∷◌, Option, Some, None}
use Rattle.gtd_core.specs.Trees.{tree_of}
use Rattle.gtd_core.specs.declared.domain.Expr.{Expr}
use Rattle.gtd_eval.specs.Membership.{InTree}
use Rattle.gtd_conditional_rows.specs.Types.{HasType}
use Rattle.gtd_conditional_rows.specs.declared.step.Step.{Step}
use Rattle.gtd_conditional_means.specs.declared.meaning.Access.TheVariants.{Closed}

-- the hours contain the second; none stand for every second
abbrev pub HoursHold : Option Expr → ℤ → Type 0
HoursHold None s = ⊤
HoursHold (Some hours) s = InTree (tree_of hours) s

-- the step applies to the vehicle type at the second
abbrev pub Applies : Step → ℕ → ℤ → Type 0
Applies step t s = HasType step.types t × HoursHold step.hours s

abbrev pub NoneApplies : List Step → ℕ → ℤ → Type 0
NoneApplies [] t s = ⊤
NoneApplies (step ∷ later) t s = (Applies step t s → ⊥) × NoneApplies later t s

-- The element is closed for the vehicle type at the second: the last step that applies to it then closes. It is open if none
-- applies.
abbrev pub IsClosed : List Step → ℕ → ℤ → Type 0
IsClosed [] t s = ⊥
IsClosed (step ∷ later) t s =
    ((step.access ≡ Closed) × Applies step t s × NoneApplies later t s) ⊎ IsClosed later t s
