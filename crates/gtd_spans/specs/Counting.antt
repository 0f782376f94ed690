-- How many seconds of a set there are, counted one by one, and what a list has on a day.
use Rattle.std.specs.Prelude.{◌≡◌, ℕ, zero, suc, ◌+◌, ℤ, pos, ◌+ℤ◌, ◌⊎◌, List, [], ◌∷◌, Option, Some, None}
use Rattle.gtd_core.specs.Limits.{day_seconds}
use Rattle.gtd_core.specs.Seconds.{Interval}
use Rattle.gtd_core.specs.declared.domain.Op.TheVariants.{Meet}
use Rattle.gtd_spans.specs.Normal.{combine}

-- of the n seconds from a second on, this many are in the set
unfoldable pub IsCount : (ℤ → Type 0) → ℤ → ℕ → ℕ → Type 0
IsCount set t zero count = count ≡ 0
IsCount set t (suc n) count =
    (rest : ℕ) × IsCount set (t +ℤ pos 1) n rest × ((set t × (count ≡ rest + 1)) ⊎ ((set t → ⊥) × (count ≡ rest)))

-- the span at hand and those after it, or none
abbrev pub spans_to_come : Option Interval → List Interval → List Interval
spans_to_come None rest = []
spans_to_come (Some x) rest = x ∷ rest

-- the day that begins at midnight
abbrev pub day_at : ℤ → Interval
day_at midnight = record { from = midnight; until = midnight +ℤ pos day_seconds }

-- the part of a list within bounds: the normal list of the seconds that are in both
abbrev pub part_within : Interval → List Interval → List Interval
part_within bounds spans = combine Meet spans (bounds ∷ [])
