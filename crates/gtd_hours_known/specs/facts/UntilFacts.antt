-- Years that end later, but not after the known years, are years of the calendar.
use Rattle.std.proofs.Common.{◌≤◌, ℕ, arith}
use Rattle.std.specs.Prelude.{max}
use Rattle.gtd_hours.specs.Ranges.{IsYears}
use Rattle.gtd_hours.specs.declared.hours.Years.{Years}
use Rattle.gtd_hours_holidays.specs.declared.known_years.KnownYears.{KnownYears}

in_order : (one other : ℕ) → one ≤ max one other
in_order one other = omega arith

at_most : (one other most : ℕ) → one ≤ most → other ≤ most → max one other ≤ most
at_most one other most a b = omega (arith, a, b)

pub until_in_range : (known : KnownYears) (x : Years) → IsYears x.first (max x.first known.last) x.step
until_in_range known x =
    let own = x.in_range in
    let high : x.first ≤ 2799 = omega (arith, own.1, own.2) in
    let last : known.last ≤ 2799 = omega (arith, known.in_range.2) in
    (own.0, in_order x.first known.last, at_most x.first known.last 2799 high last, own.3, own.4)
