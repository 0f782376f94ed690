-- The day from which the walk over the starts before a horizon must begin.
use Rattle.std.specs.Prelude.{◌≡◌, ◌⊎◌, ℕ, true, false, count_by, ℤ, pos, ◌-ℤ◌, ◌≤ℤ◌, ◌<ℤ◌}
use Rattle.gtd_core.specs.Limits.{day_seconds}
use Rattle.gtd_core.specs.declared.start.StartParts.{StartParts}
use Rattle.gtd_calendar.specs.ComputedFields.{day_fields}
use Rattle.gtd_recur.specs.Begins.{begins_on, month_and_year_fit}
use Rattle.gtd_recur.specs.Work.{days_between}

-- The day `first` is the last day before day n, and not before day `low`, on which the start begins; or `low` if there is
-- none. Of the days from it up to n, those that no given month or year excludes were looked at.
pub record IsFirstDay (p : StartParts) (low n first : ℤ) (looked : ℕ) : Type 0 where
  pub begin : low ≤ℤ first
  pub within : first ≤ℤ n
  pub counted : count_by (month_and_year_fit p) (days_between first n) ≡ looked
  pub none : (m : ℤ) → first <ℤ m → m <ℤ n → begins_on p (day_fields m) ≡ false
  pub reason : ((first <ℤ n) × (begins_on p (day_fields first) ≡ true)) ⊎ (first ≡ low)

-- a look backwards that ended at such a day: if the start begins on it, it is open from its first second on; otherwise
-- the open day is the one before it, with nothing left of it
pub record IsLookBack (p : StartParts) (low n first day : ℤ) (clock looked : ℕ) : Type 0 where
  pub at : IsFirstDay p low n first looked
  pub opened : ((first <ℤ n) × (begins_on p (day_fields first) ≡ true) × (day ≡ first) × (clock ≡ 0))
      ⊎ ((day ≡ first -ℤ pos 1) × (clock ≡ day_seconds)
      × ((m : ℤ) → first ≤ℤ m → m <ℤ n → begins_on p (day_fields m) ≡ false))
