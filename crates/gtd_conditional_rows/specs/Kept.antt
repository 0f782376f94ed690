-- When steps close an element, as it is kept for each vehicle type.
use Rattle.std.specs.Prelude.{◌≡◌, ◌<◌, ℕ, List, length, slice_index_or}
use Rattle.gtd_conditional_rows.specs.Times.{times_of}
use Rattle.gtd_conditional_rows.specs.Timing.{timing_times}
use Rattle.gtd_conditional_rows.specs.Types.{IsVehicle}
use Rattle.gtd_conditional_rows.specs.declared.kept.Kept.{Kept}
use Rattle.gtd_conditional_rows.specs.declared.kept.Kept.TheVariants as kept
use Rattle.gtd_conditional_rows.specs.declared.step.Step.{Step}

-- of the vehicle type its own times are kept, or a lower type of the same times
abbrev pub IsKept : List Step → ℕ → Kept → Type 0
IsKept steps t (kept.Own timing) = timing_times timing ≡ times_of steps t
IsKept steps t (kept.As lower) = IsVehicle lower × (lower < t) × (times_of steps lower ≡ times_of steps t)

-- that is so of each vehicle type, at the place of its number
abbrev pub AreKept : List Step → List Kept → Type 0
AreKept steps all =
    (length all ≡ 100) × ((t : ℕ) (d : Kept) → IsVehicle t → IsKept steps t (slice_index_or all t d))
