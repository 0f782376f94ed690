-- The two digits of the day tell how many days before it the month began, and so at which second.
use Rattle.std.proofs.Common.{arith, ap, ◌∙◌, ◌≡◌, ◌+◌, ◌*◌, ◌≤◌, ℤ, ℕ, List, pos, ◌+ℤ◌, ◌*ℤ◌, ◌-◌, ◌/◌, get_or}
use Rattle.std.proofs.Common.{◌-ℤ◌, to_z, of_z, w64, to_z-of_z}
use Rattle.gtd_calendar.specs.Calendar.{IsCalendarDay}
use Rattle.gtd_calendar.specs.ComputedDates.{year_of, month_of, day_of_month}
use Rattle.gtd_calendar.specs.Stamp.{date_text, digit}
use Rattle.gtd_calendar.specs.facts.Signed.{signed_arith}
use Rattle.gtd_calendar.specs.facts.DateLemmas.{date_of-is, month_length_bounds}
use Rattle.gtd_schedule.specs.Moments.{first_second}
use Rattle.gtd_schedule.proofs.moment.write_whole_day.Goals as goal

value : (d tens ones : ℕ) → d ≤ 31 → tens ≡ digit (d / 10) → ones ≡ digit d → 10 * (tens - 48) + (ones - 48) ≡ d
value d tens ones high a b = omega arith

begins_is : (day from : ℤ) (d : ℕ) → IsCalendarDay day → d ≤ 31 → from ≡ pos d
    → to_z w64 (of_z w64 (pos 86400 *ℤ to_z w64 (of_z w64 (to_z w64 (of_z w64 (to_z w64 (of_z w64 day) +ℤ pos 1))
    -ℤ to_z w64 (of_z w64 from))))) ≡ first_second day d
unfolding first_second
begins_is day from d a few is = omega (arith, signed_arith, a.0, a.1)

times_day : {a b : ℕ} → a ≤ b → 86400 * a ≤ 86400 * b
times_day few = omega (arith, few)

month_value : (m tens ones : ℕ) → m ≤ 12 → tens ≡ digit (m / 10) → ones ≡ digit m → 10 * (tens - 48) + (ones - 48) ≡ m
month_value m tens ones high a b = omega arith

pub returns-clause-month : goal.returns-clause-month
returns-clause-month c =
    let n = c.args.day in
    let date = date_of-is n in
    let long = month_length_bounds (year_of n) (month_of n) in
    let few : day_of_month n ≤ 31 = omega (arith, date.0.1.1, long.0) in
    let l = c.write_date-date.result in
    let same : to_z w64 (of_z w64 n) ≡ n = to_z-of_z c.ranges.day in
    let shown : l ≡ date_text n = rw same at c.write_date-date.ensures.value in
    let is = value (day_of_month n) (get_or l 8 0) (get_or l 9 0) few
    (ap (λ (l : List ℕ). get_or l 8 0) shown) (ap (λ (l : List ℕ). get_or l 9 0) shown) in
    let month = month_value (month_of n) (get_or l 5 0) (get_or l 6 0) date.0.0.1
    (ap (λ (l : List ℕ). get_or l 5 0) shown) (ap (λ (l : List ℕ). get_or l 6 0) shown) in
    record {
      begins = begins_is n c.from.result (day_of_month n) c.requires.day few (c.from.ensures ∙ ap pos is);
      reached = rw (← month) (times_day (c.last_day_of.ensures.reached (year_of n)));
    }
