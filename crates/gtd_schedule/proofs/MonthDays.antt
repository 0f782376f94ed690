-- The days of one month: their texts differ in the last two bytes alone.
use Rattle.std.proofs.Common.{◌≡◌, ◌∙◌, refl, sym, subst, arith, ◌≤◌, ◌*◌, ℕ, ℤ, unsigned_abs, FitsSigned, w64}
use Rattle.gtd_calendar.specs.facts.Signed.{signed_arith}
use Rattle.gtd_calendar.specs.Calendar.{IsCalendarDay, day_number, month_length}
use Rattle.gtd_calendar.specs.ComputedDates.{year_of, month_of, day_of_month}
use Rattle.gtd_calendar.specs.Stamp.{date_text, ymd_text}
use Rattle.gtd_calendar.specs.facts.DateLemmas.{date_of-is, date_of-only, month_length_bounds}
use Rattle.gtd_schedule.specs.Moments.{IsDayOfMonth, IsMonthOf, first_second}
use Rattle.gtd_schedule.specs.declared.moment.Month.{Month}

day_number-other : (y : ℤ) (m d e : ℕ) (n k : ℤ) → 1 ≤ d → 1 ≤ e → n ≡ day_number y m d → first_second n d ≡ first_second k e
    → k ≡ day_number y m e
unfolding day_number first_second
day_number-other y m d e n k first other is same = omega (arith, signed_arith)

pub few : (n : ℤ) → day_of_month n ≤ 31
few n =
    let date = date_of-is n in
    let long = month_length_bounds (year_of n) (month_of n) in omega (arith, date.0.1.1, long.0)

-- the first second of a month is a number of the machine's, and all its seconds are in range
pub begins_in : (begins n : ℤ) (d : ℕ) → IsCalendarDay n → begins ≡ first_second n d → d ≤ 31 → FitsSigned w64 begins
unfolding first_second
begins_in begins n d b e f = omega (arith, signed_arith, b.0, b.1)

-- the day of a month, by its place, if the month has it
module _ (n : ℤ) (month : Month) (of : IsMonthOf n month) (k : ℤ) (d : ℕ) (in_month : IsDayOfMonth month k d) where
  other_date : (year_of n ≡ year_of k) × (month_of n ≡ month_of k) × (d ≡ day_of_month k)
  other_date =
      let date = date_of-is n in
      let is = day_number-other (year_of n) (month_of n) (day_of_month n) d n k date.0.1.0 in_month.some date.1
      (sym of.begins ∙ in_month.begins) in
      date_of-only k (year_of n) (month_of n) d ((date.0.0, (in_month.some, omega (arith, in_month.within, of.reached))), is)

  pub other_day : date_text k ≡ ymd_text (unsigned_abs (year_of n)) (month_of n) d
  other_day = let is = other_date in rw (is.0, is.1, is.2) refl

  pub other_month : IsMonthOf k month
  other_month = let is = other_date in record {
    begins = rw (← is.2) in_month.begins;
    reached = subst (λ (m : ℕ). month.seconds ≤ 86400 * month_length (year_of k) m) is.1
        (subst (λ (y : ℤ). month.seconds ≤ 86400 * month_length y (month_of n)) is.0 of.reached);
  }
