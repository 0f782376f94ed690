-- The month of this year, if it is not over, and otherwise that of the next year is the next run: none lies between.
use Rattle.std.proofs.Common.{rules, arith, ◌≤ℤ◌, ◌<ℤ◌, FitsSigned, to_z-of_z, w64}
use Rattle.gtd_calendar.specs.facts.Signed.{signed_arith}
use Rattle.gtd_recur.proofs.JumpLemmas.{month-this_year, month-next_year, next-open}
use Rattle.gtd_recur.proofs.SmallLemmas.{year-small}
use Rattle.gtd_recur.proofs.jump.days_of_month.Goals as goal

pub clip-requires-else-day-this_year-clause-open : goal.clip-requires-else-day-this_year-clause-open
clip-requires-else-day-this_year-clause-open c =
    let year = year-small _ c.year_of_day-year.ensures.bound in let day = to_z-of_z c.ranges.day in
    rw day (next-open _ _ _ _ _ (rw day at c.year_of_day-year.ensures.value)
    (rw (year.is, year.after) at c.months.ensures.months))

pub returns-then-day-this_year : goal.returns-then-day-this_year
returns-then-day-this_year c =
    let year = year-small _ c.year_of_day-year.ensures.bound in let day = to_z-of_z c.ranges.day in
    let fits : FitsSigned w64 c.months-this_year.result.until = search rules in
    let ahead : c.args.day <ℤ c.months-this_year.result.until = omega (arith, signed_arith, c.if-day-this_year.true) in
    record {
      run = month-this_year _ _ _ _ _ _ _ _ (rw day at c.year_of_day-year.ensures.value) ahead
          (rw (year.is) at c.months-this_year.ensures.months) (rw (day, to_z-of_z c.ranges.end) at c.clip.ensures.clipped);
    }

pub returns-else-day-this_year : goal.returns-else-day-this_year
returns-else-day-this_year c =
    let year = year-small _ c.year_of_day-year.ensures.bound in let day = to_z-of_z c.ranges.day in
    let fits : FitsSigned w64 c.months-this_year.result.until = search rules in
    let past : c.months-this_year.result.until ≤ℤ c.args.day = omega (arith, signed_arith, c.if-day-this_year.false) in
    record {
      run = month-next_year c.year_of_day-year.result c.args.month _ _ _ _ c.args.day c.args.end _ _
          (rw day at c.year_of_day-year.ensures.value) past
          (rw (year.is) at c.months-this_year.ensures.months) (rw (year.is, year.after) at c.months.ensures.months)
          (rw (day, to_z-of_z c.ranges.end) at c.clip-else-day-this_year.ensures.clipped);
    }
