-- Rows on the way: those of the vehicle types up to one.
use Rattle.std.specs.Prelude.{◌≡◌, ◌<◌, ℕ, List, Option, Some, None, if◌then◌else◌}
use Rattle.gtd_rows.specs.declared.direction.Closed.TheVariants.{One, Both}
use Rattle.gtd_rows.specs.declared.direction.Direction.{Direction}
use Rattle.gtd_conditional_rows.specs.Rows.{AreOrdered, Each, IsGroup, Some', is_listed}
use Rattle.gtd_conditional_rows.specs.Times.{Never, times_of}
use Rattle.gtd_conditional_rows.specs.Timing.{domain_times}
use Rattle.gtd_conditional_rows.specs.Types.{HasType, IsVehicle}
use Rattle.gtd_conditional_rows.specs.declared.row.Row.{Row}
use Rattle.gtd_conditional_rows.specs.declared.step.Step.{Step}

-- the same row, which closes both directions
abbrev pub with_both : Row → Row
with_both row = record row { closed = Both }

-- the row closes both directions if it is among those of the other
abbrev pub IsMarked : Direction → List Row → Row → Type 0
IsMarked direction others row = row.closed ≡ (if is_listed row others then Both else One direction)

module _ (steps : List Step) (direction : Direction) (others : List Row) where
  -- the row has the domain of the vehicle type; there is none if the type is never closed
  abbrev pub IsGroupOf : ℕ → Option Row → Type 0
  IsGroupOf t None = times_of steps t ≡ Never
  IsGroupOf t (Some row) =
      IsGroup steps row × (times_of steps t ≡ domain_times row.domain) × IsMarked direction others row

  -- the rows of the vehicle types below one
  pub record GroupedTo (bound : ℕ) (rows : List Row) : Type 0 where
    pub each : Each (IsGroup steps) rows
    pub marked : Each (IsMarked direction others) rows
    pub all : (t : ℕ) → IsVehicle t → t < bound → (times_of steps t ≡ Never → ⊥) → Some' (λ row. HasType row.types t) rows
    pub low : Each (λ row. (t : ℕ) × IsVehicle t × (t < bound) × HasType row.types t) rows
    pub ordered : AreOrdered 0 rows
