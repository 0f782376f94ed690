-- The rows of an element.
use Rattle.std.specs.Prelude.{◌≡◌, ◌<◌, ◌⊎◌, ◌↔◌, ◌&&◌, ◌||◌, ◌++◌, ⊤, ℕ, ℤ, Bool, true, false, not, List, [], ◌∷◌, filter}
use Rattle.std.specs.Prelude.{Option, Some, None, if◌then◌else◌}
use Rattle.gtd_core.specs.Equality.{same_tree}
use Rattle.gtd_core.specs.Parts.{domain_tree}
use Rattle.gtd_core.specs.declared.domain.Domain.{Domain}
use Rattle.gtd_rows.specs.Serving.{ClosesDirection}
use Rattle.gtd_rows.specs.declared.direction.Closed.TheVariants.{One, Both}
use Rattle.gtd_rows.specs.declared.direction.Direction.{Direction}
use Rattle.gtd_rows.specs.declared.direction.Direction.TheVariants.{Positive, Negative}
use Rattle.gtd_conditional_rows.specs.Times.{Never, InTimes, times_of}
use Rattle.gtd_conditional_rows.specs.Timing.{domain_times}
use Rattle.gtd_conditional_rows.specs.Types.{HasType, IsVehicle, same_flags}
use Rattle.gtd_conditional_rows.specs.declared.row.Row.{Row}
use Rattle.gtd_conditional_rows.specs.declared.step.Step.{Step}
use Rattle.gtd_conditional_rows.specs.declared.types.Types.{Types}

-- each of the rows, some of them
abbrev pub Each : (Row → Type 0) → List Row → Type 0
Each P [] = ⊤
Each P (row ∷ rows) = P row × Each P rows

abbrev pub Some' : (Row → Type 0) → List Row → Type 0
Some' P [] = ⊥
Some' P (row ∷ rows) = P row ⊎ Some' P rows

abbrev pub same_domain : Option Domain → Option Domain → Bool
same_domain None None = true
same_domain None (Some other) = false
same_domain (Some domain) None = false
same_domain (Some domain) (Some other) = same_tree (domain_tree domain) (domain_tree other)

-- the rows have the same types and the same domain
abbrev pub same_row : Row → Row → Bool
same_row row other = same_flags row.types.has other.types.has && same_domain row.domain other.domain

abbrev pub is_among : Types → Option Domain → List Row → Bool
is_among types domain [] = false
is_among types domain (row ∷ rows) =
    (same_flags types.has row.types.has && same_domain domain row.domain) || is_among types domain rows

-- some row has the same types and the same domain
abbrev pub is_listed : Row → List Row → Bool
is_listed row rows = is_among row.types row.domain rows

-- the type is the lowest of the row's
pub record IsLowest (row : Row) (t : ℕ) : Type 0 where
  pub vehicle : IsVehicle t
  pub has : HasType row.types t
  pub lowest : (u : ℕ) → IsVehicle u → u < t → HasType row.types u → ⊥

-- the lowest types of the rows ascend, from above a bound on
abbrev pub AreOrdered : ℕ → List Row → Type 0
AreOrdered bound [] = ⊤
AreOrdered bound (row ∷ rows) = (t : ℕ) × (bound < t) × IsLowest row t × AreOrdered t rows

-- the row has exactly the types that steps close at the seconds of its domain
abbrev pub IsGroup : List Step → Row → Type 0
IsGroup steps row = (t : ℕ) → IsVehicle t → HasType row.types t ↔ (times_of steps t ≡ domain_times row.domain)

-- Rows for what steps close: each has the types of one domain, all types that are ever closed are there, and the rows are in
-- the order of their lowest types.
pub record AreGroups (steps : List Step) (rows : List Row) : Type 0 where
  pub each : Each (IsGroup steps) rows
  pub all : (t : ℕ) → IsVehicle t → (times_of steps t ≡ Never → ⊥) → Some' (λ row. HasType row.types t) rows
  pub ordered : AreOrdered 0 rows

-- Rows for steps in the positive and in the negative direction: those of the positive direction, which close both if the
-- negative one has the same; then those of the negative direction that the positive one does not have.
pub record AreRows (positive negative : List Step) (rows : List Row) : Type 0 where
  pub forward : List Row
  pub backward : List Row
  pub forward_groups : AreGroups positive forward
  pub backward_groups : AreGroups negative backward
  pub forward_closed : Each (λ row. row.closed ≡ (if is_listed row backward then Both else One Positive)) forward
  pub backward_closed : Each (λ row. row.closed ≡ One Negative) backward
  pub are : rows ≡ forward ++ filter (λ row. not (is_listed row forward)) backward

-- at most one of the rows
abbrev pub AtMostOne : (Row → Type 0) → List Row → Type 0
AtMostOne P [] = ⊤
AtMostOne P (row ∷ rows) = (P row → Some' P rows → ⊥) × AtMostOne P rows

-- some row closes the direction for the vehicle type at the second
abbrev pub IsClosedByRow : List Row → Direction → ℕ → ℤ → Type 0
IsClosedByRow rows direction t s =
    Some' (λ row. ClosesDirection row.closed direction × HasType row.types t × InTimes (domain_times row.domain) s) rows

-- the steps of a direction
abbrev pub steps_in : List Step → List Step → Direction → List Step
steps_in positive negative Positive = positive
steps_in positive negative Negative = negative
