-- What the fields of a row say.
use Rattle.std.proofs.Common.{◌≢◌, ◌<◌, refl, arith, ℕ, List, [], ◌∷◌, length, ℤ, pos, ◌+ℤ◌, ◌≤ℤ◌}
use Rattle.std.specs.Prelude.{Err}
use Rattle.gtd_rows.specs.Columns.{Fields}
use Rattle.gtd_hours_holidays.specs.Dates.{IsDayText}
use Rattle.gtd_hours_holidays.specs.Rows.{IsLastDay, IsRow}
use Rattle.gtd_hours_holidays.specs.declared.fault.HolidaysFault.TheVariants as fault

-- a field that is not empty has a last day, or none
pub some_last : (first : ℤ) (text : List ℕ) (n : ℤ) → 0 < length text → IsDayText text n → first ≤ℤ n
    → n ≤ℤ (first +ℤ pos 36_599) → IsLastDay first text n
some_last first [] n some is low high = absurd (omega (arith, some))
some_last first (b ∷ text) n some is low high = (is, low, high)

pub of_last : (first : ℤ) (text : List ℕ) (n : ℤ) → 0 < length text → IsLastDay first text n
    → IsDayText text n × (first ≤ℤ n) × (n ≤ℤ (first +ℤ pos 36_599))
of_last first [] n some is = absurd (omega (arith, some))
of_last first (b ∷ text) n some is = is

-- ---- rows at fault

pub few_fields : (row : ℕ) (fields : Fields) → length fields ≢ 4 → IsRow row fields (Err (fault.FieldCount row))
few_fields row [] other = refl
few_fields row (a ∷ []) other = refl
few_fields row (a ∷ b ∷ []) other = refl
few_fields row (a ∷ b ∷ c ∷ []) other = refl
few_fields row (a ∷ b ∷ c ∷ d ∷ []) other = absurd (other refl)
few_fields row (a ∷ b ∷ c ∷ d ∷ e ∷ more) other = refl
