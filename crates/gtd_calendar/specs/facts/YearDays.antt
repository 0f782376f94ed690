-- The days of the years that a table or a picture may be of.
use Rattle.std.proofs.Common.{◌≡◌, ◌∙◌, ap, unsigned_abs, to_z, of_z, to_z-of_z, w64, FitsSigned, ◌≤◌, ◌+◌, ◌-◌, ℕ, arith}
use Rattle.std.specs.Prelude.{ℤ, pos, ◌+ℤ◌, ◌-ℤ◌, ◌≤ℤ◌}
use Rattle.gtd_core.specs.Limits.{first_horizon_day}
use Rattle.gtd_core.specs.Horizons.{IsHorizonFault, IsHorizon}
use Rattle.gtd_core.specs.declared.horizon.HorizonFault.{HorizonFault}
use Rattle.gtd_core.specs.declared.horizon.HorizonFault.TheVariants.{Empty, TooEarly, TooLate, TooLong}
use Rattle.gtd_calendar.specs.Calendar.{day_number, days_of_months, first_day, year_length}
use Rattle.gtd_calendar.specs.facts.Signed.{signed_arith}
use Rattle.gtd_calendar.specs.facts.DateLemmas.{days_of_months-year, days_of_months_mono}
use Rattle.gtd_calendar.specs.facts.YearLemmas.{first_day-next}

-- the first day of a month
pub month_begins : (y : ℤ) (m : ℕ) → day_number y m 1 ≡ first_day y +ℤ pos (days_of_months y (m - 1))
unfolding day_number
month_begins y m = omega (arith, signed_arith)

-- 1 January is a year's first day
pub year_begins : (y : ℤ) → first_day y +ℤ pos (days_of_months y (1 - 1)) ≡ first_day y
unfolding days_of_months
year_begins y = omega (arith, signed_arith)

-- the year after begins where the year's days end
pub next_year : (year : ℕ) → first_day (pos (year + 1)) ≡ first_day (pos year) +ℤ pos (year_length (pos year))
next_year year =
    let same : pos (year + 1) ≡ pos year +ℤ pos 1 = omega (arith, signed_arith) in
    ap first_day same ∙ first_day-next (pos year)

in_range : (year : ℕ) → (1901 ≤ year) × (year ≤ 2199)
    → (first_horizon_day ≤ℤ first_day (pos year)) × (first_day (pos year) ≤ℤ pos 84000)
unfolding first_day
in_range year h = (omega (arith, signed_arith, h.0, h.1), omega (arith, signed_arith, h.0, h.1))

year_length-in : (y : ℤ) → (365 ≤ year_length y) × (year_length y ≤ 366)
year_length-in y = (grind arith, grind arith)

pub year_length-few : (y : ℤ) → year_length y ≤ 366
year_length-few y = (year_length-in y).1

-- the days of such a year are a horizon
pub year_horizon : (year : ℕ) → (1901 ≤ year) × (year ≤ 2199) → IsHorizon (first_day (pos year)) (first_day (pos (year + 1)))
year_horizon year h =
    within (first_day (pos year)) (first_day (pos (year + 1))) (year_length (pos year)) (in_range year h)
    (year_length-in (pos year)) (next_year year)
  where
    within : (a b : ℤ) (n : ℕ) → (first_horizon_day ≤ℤ a) × (a ≤ℤ pos 84000) → (365 ≤ n) × (n ≤ 366) → b ≡ a +ℤ pos n
        → IsHorizon a b
    within a b n r s e = (
      omega (arith, signed_arith, e, s.0),
      r.0,
      omega (arith, signed_arith, e, r.1, s.1),
      omega (arith, signed_arith, e, s.1),
    )

-- the months before a month have no more days than the year
pub few_before : (y : ℤ) (n : ℕ) → n ≤ 12 → days_of_months y n ≤ 366
few_before y n few =
    let mono = days_of_months_mono y n 12 few in
    let all = days_of_months-year y in
    let short = year_length-few y in
    omega (arith, mono, all, short)

-- a horizon has no fault
pub no_fault : (fault : HorizonFault) (a b : ℤ) → IsHorizon a b → IsHorizonFault fault a b → ⊥
no_fault Empty a b h f = omega (arith, signed_arith, h.0, f)
no_fault TooEarly a b h f = omega (arith, signed_arith, h.1, f.1)
no_fault TooLate a b h f = omega (arith, signed_arith, h.2, f.2)
no_fault TooLong a b h f = omega (arith, signed_arith, h.3, f.3)

-- a day so many days after another is near, and so far from it
pub near_after : (first day : ℤ) (n : ℕ) → n ≤ 366 → day ≡ first +ℤ pos n
    → (first ≤ℤ day) × (day ≤ℤ (first +ℤ pos 366)) × (unsigned_abs (day -ℤ first) ≡ n)
near_after first day n few e =
    let d : day -ℤ first ≡ pos n = omega (arith, signed_arith, e) in
    (omega (arith, signed_arith, e), omega (arith, signed_arith, e), rw d (omega (arith, signed_arith)))

-- and so are two such days that the code holds as 64 bits
pub near_cast : (first day start : ℤ) (n : ℕ) → FitsSigned w64 first → FitsSigned w64 day → first ≡ start
    → day ≡ start +ℤ pos n → n ≤ 366
    → (to_z w64 (of_z w64 first) ≤ℤ to_z w64 (of_z w64 day))
    × (to_z w64 (of_z w64 day) ≤ℤ (to_z w64 (of_z w64 first) +ℤ pos 366))
    × (unsigned_abs (to_z w64 (of_z w64 day) -ℤ to_z w64 (of_z w64 first)) ≡ n)
near_cast first day start n f d is next few = rw (to_z-of_z f, is) (near_after start _ n few (to_z-of_z d ∙ next))

-- the days from one to another
pub days_between : (from to : ℤ) (n : ℕ) → n ≤ 366 → to ≡ from +ℤ pos n → unsigned_abs (to_z w64 (of_z w64 (to -ℤ from))) ≡ n
days_between from to n few e =
    let d : to -ℤ from ≡ pos n = omega (arith, signed_arith, e) in
    rw d (omega (arith, signed_arith))
