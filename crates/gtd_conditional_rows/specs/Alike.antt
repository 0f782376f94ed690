-- Vehicle types for which steps do the same.
use Rattle.std.specs.Prelude.{◌≡◌, ◌<◌, ℕ, List, slice_index_or}
use Rattle.gtd_conditional_rows.specs.Times.{times_of}
use Rattle.gtd_conditional_rows.specs.Types.{IsVehicle}
use Rattle.gtd_conditional_rows.specs.declared.alike.Alike.{Alike}
use Rattle.gtd_conditional_rows.specs.declared.step.Step.{Step}

-- the type that is kept of a vehicle type
abbrev pub first_of : Alike → ℕ → ℕ
first_of alike t = slice_index_or alike.first t 0

-- of each vehicle type it is one for which the steps do the same
abbrev pub AreAlike : List Step → Alike → Type 0
AreAlike steps alike = (t : ℕ) → IsVehicle t → times_of steps (first_of alike t) ≡ times_of steps t

-- a lower type that is kept of a vehicle type
abbrev pub IsLower : Alike → ℕ → ℕ → Type 0
IsLower alike t lower = IsVehicle lower × (lower < t) × (lower ≡ first_of alike t)
