-- Pictures that would have more stretches than can be seen. They are not put.
use Rattle.std.specs.Prelude.{◌≡◌, ◌<◌, ◌⊎◌, ℕ, ℤ, pos, ◌+ℤ◌, ◌*ℤ◌, List, [], length}
use Rattle.gtd_calendar.specs.Calendar.{first_day, year_length}
use Rattle.gtd_core.specs.Limits.{day_seconds}
use Rattle.gtd_core.specs.Seconds.{Interval}
use Rattle.gtd_spans.specs.Normal.{IsNormalFor}

-- the stretches of seconds that a picture shows at most
abbrev pub most_stretches : ℕ
most_stretches = 20000

-- The seconds of the set in the year make more stretches: as many as the list has that is normal for them.
pub record IsCrowded (set : ℤ → Type 0) (year : ℕ) : Type 0 where
  pub spans : List Interval
  pub normal : IsNormalFor set (first_day (pos year) *ℤ pos day_seconds)
      ((first_day (pos year) +ℤ pos (year_length (pos year))) *ℤ pos day_seconds) spans
  pub many : most_stretches < length spans

-- The lines of this kind; or none at all, exactly if the set is crowded in the year.
abbrev pub IsSeen : (ℤ → Type 0) → ℕ → (List (List ℕ) → Type 0) → List (List ℕ) → Type 0
IsSeen set year IsText lines = (IsCrowded set year × (lines ≡ [])) ⊎ ((IsCrowded set year → ⊥) × IsText lines)
