-- Where labels stand.
use Rattle.std.proofs.Common.{◌≡◌, ap, sym, ◌<◌, ◌+◌, ◌-◌, ◌*◌, ℕ, arith}
use Rattle.std.specs.Prelude.{ℤ, pos, ◌+ℤ◌}
use Rattle.std.specs.Int.{IsInRange}
use Rattle.gtd_calendar.specs.Calendar.{IsDateOf, day_number, days_of_months, first_day}
use Rattle.gtd_calendar.specs.facts.DateLemmas.{month_length_bounds}

number_is : (year : ℤ) (n day : ℕ) → first_day year +ℤ pos (days_of_months year n + (day - 1)) ≡ day_number year (n + 1) day
unfolding day_number
number_is year n day =
    let same : n + 1 - 1 ≡ n = omega arith in
    ap (λ (k : ℕ). first_day year +ℤ pos (days_of_months year k + (day - 1))) (sym same)

pub month_day : (year : ℤ) (n day : ℕ) → n < 12 → IsInRange 1 28 day
    → IsDateOf (first_day year +ℤ pos (days_of_months year n + (day - 1))) year (n + 1) day
month_day year n day few in_month =
    let long = (month_length_bounds year (n + 1)).1 in
    (((omega arith, omega (arith, few)), (in_month.0, omega (arith, in_month.1, long))), number_is year n day)

pub tick_there : (place day : ℕ) → 72 + 3 * place + 3 * (day - 1) ≡ 72 + 3 * (place + (day - 1))
tick_there place day = omega arith

pub hour_there : (hour : ℕ) → 18 * hour * 86400 ≡ 432 * (3600 * hour)
hour_there hour = omega arith
