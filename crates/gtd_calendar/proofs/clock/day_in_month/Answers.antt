-- A count of months splits into a year and a month, and the day is cut to the length of that month.
use Rattle.std.proofs.Common.{arith, ◌≡◌, ◌+◌, ◌/◌, ◌%◌, to_z, of_z, w8, w16, w64, to_z-of_z, pos, ◌∙◌, ◌+ℤ◌, ◌-ℤ◌, ℤ, ◌<◌, ℕ}
use Rattle.std.proofs.Common.{◌≤◌, min, FitsSigned, rules}
use Rattle.jiff_core.proofs.SignedLemmas.{signed_arith, signed_casts}
use Rattle.jiff_core.proofs.CalendarLemmas.{days_in_month_bounds}
use Rattle.jiff.specs.Words.{IsDate, IsEpochDay, days_in_month}
use Rattle.gtd_calendar.specs.facts.JiffLemmas.{day_in_month-theirs}
use Rattle.gtd_calendar.proofs.clock.day_in_month.Goals as goal

year_is : (count : ℕ) → count ≤ 40000 → to_z w16 (count / 12) ≡ pos (count / 12)
year_is count h = omega (arith, signed_casts)

month_is : (count : ℕ) → to_z w8 (of_z w8 (to_z w8 (count % 12) +ℤ pos 1)) ≡ pos (count % 12 + 1)
month_is count = omega (arith, signed_casts)

first_is : (count : ℕ) → count ≤ 40000 → IsDate (pos (count / 12)) (pos (count % 12 + 1)) (pos 1)
first_is count h =
    let long = days_in_month_bounds (pos (count / 12)) (count % 12 + 1) in (
      (omega (arith, signed_arith), omega (arith, signed_arith)),
      (omega (arith, signed_arith), omega (arith, signed_arith)),
      (omega (arith, signed_arith), omega (arith, signed_arith)),
    )

pub date-first-requires : goal.date-first-requires
date-first-requires c = rw (year_is c.args.count c.requires.count_in, month_is c.args.count)
    (first_is c.args.count c.requires.count_in)

pub returns : goal.returns
returns c =
    let first = c.date-first.result in
    let is = rw (year_is c.args.count c.requires.count_in, month_is c.args.count) at c.date-first.ensures in
    let month : first.month ≡ c.args.count % 12 + 1 = omega (arith, signed_arith, is.1) in
    let day : first.day ≡ 1 = omega (arith, signed_arith, is.2) in
    let long_fits : FitsSigned w8 c.days_in_month.result = search rules in
    let cut : c.min.result ≡ min c.args.day (days_in_month first.year first.month) =
    rw (to_z-of_z long_fits, c.days_in_month.ensures) at c.min.ensures in
    let sum = day_in_month-theirs c.args.count c.args.day first c.day_number_of.result c.requires.day_in is.0 month day
    c.day_number_of.ensures.value in
    record { value = fitting _ _ _ _ c.day_number_of.ensures.bound (omega arith) c.from.ensures cut ∙ sum }
  where
    fitting : (n r : ℤ) (m k : ℕ) → IsEpochDay n → m < 256 → r ≡ pos m → m ≡ k
        → to_z w64 (of_z w64 (to_z w64 (of_z w64 (to_z w64 (of_z w64 n) +ℤ to_z w64 (of_z w64 r))) -ℤ pos 1))
        ≡ n +ℤ pos k -ℤ pos 1
    fitting n r m k near low e same = omega (arith, signed_arith)
