-- The month of the last day's year, if it has begun, and otherwise that of the year before is the last run.
use Rattle.std.proofs.Common.{rules, arith, ◌≡◌, ◌≤ℤ◌, pos, FitsSigned, to_z-of_z, w64}
use Rattle.gtd_calendar.specs.facts.Signed.{signed_arith}
use Rattle.gtd_recur.specs.Jumps.{IsOfMonth}
use Rattle.gtd_recur.proofs.BackLemmas.{none-last, month-last_year, month-year_before, month-no_year, year_before-open}
use Rattle.gtd_recur.proofs.SmallLemmas.{small-day, year-small}
use Rattle.gtd_recur.proofs.jump.last_of_month.Goals as goal

pub returns-then-low-end : goal.returns-then-low-end
returns-then-low-end c =
    let low = to_z-of_z c.ranges.low in let end = to_z-of_z c.ranges.end in
    let past : c.args.end ≤ℤ c.args.low = omega (arith, signed_arith, c.if-low-end.true) in
    record {
      run = rw low (none-last (IsOfMonth c.args.month) c.args.low c.args.end c.requires.order
          (λ n ge lt is. omega (arith, signed_arith, ge, lt, past)));
    }

pub returns-then-this_year-end : goal.returns-then-this_year-end
returns-then-this_year-end c =
    let end = small-day c.args.end (omega (arith, signed_arith, c.requires.low_in, c.requires.order))
    (omega (arith, signed_arith, c.requires.end_in)) in
    record {
      run = month-last_year _ _ _ _ _ _ _ _ (rw (end.is, end.before) at c.year_of_day-year.ensures.value)
          (rw (year-small _ c.year_of_day-year.ensures.bound).is at c.months-this_year.ensures.months)
          (rw (to_z-of_z c.ranges.low, end.is) at c.clip_back.ensures.clipped);
    }

pub returns-then-year-lt1801 : goal.returns-then-year-lt1801
returns-then-year-lt1801 c =
    let bound = c.year_of_day-year.ensures.bound in let year = year-small _ bound in
    let end = to_z-of_z c.ranges.end in
    let fits : FitsSigned w64 c.months-this_year.result.from = search rules in
    let ahead : c.args.end ≤ℤ c.months-this_year.result.from = omega (arith, signed_arith, c.if-this_year-end.false) in
    let is : c.year_of_day-year.result ≡ pos 1800 = omega (arith, signed_arith, c.if-year-lt1801.true, year, bound.0) in
    record {
      run = rw (to_z-of_z c.ranges.low) (month-no_year _ _ _ _ _ c.requires.low_in c.requires.order c.requires.end_in ahead
          (rw (year.is, is) at c.months-this_year.ensures.months));
    }

pub months-requires-clause-year_in : goal.months-requires-clause-year_in
months-requires-clause-year_in c =
    let bound = c.year_of_day-year.ensures.bound in let year = year-small _ bound in
    rw (year.is, year.before) (
      omega (arith, signed_arith, bound.0, c.if-year-lt1801.false, year),
      omega (arith, signed_arith, bound.1),
    )

pub clip_back-requires-2-clause-open : goal.clip_back-requires-2-clause-open
clip_back-requires-2-clause-open c =
    let year = year-small _ c.year_of_day-year.ensures.bound in
    let end = small-day c.args.end (omega (arith, signed_arith, c.requires.low_in, c.requires.order))
    (omega (arith, signed_arith, c.requires.end_in)) in
    rw (end.is) (year_before-open _ _ _ _ _ (rw (end.is, end.before) at c.year_of_day-year.ensures.value)
    (rw (year.is, year.before) at c.months.ensures.months))

pub returns : goal.returns
returns c =
    let year = year-small _ c.year_of_day-year.ensures.bound in let end = to_z-of_z c.ranges.end in
    let fits : FitsSigned w64 c.months-this_year.result.from = search rules in
    let ahead : c.args.end ≤ℤ c.months-this_year.result.from = omega (arith, signed_arith, c.if-this_year-end.false) in
    record {
      run = month-year_before c.year_of_day-year.result c.args.month _ _ _ _ c.args.low c.args.end _ _ ahead
          (rw (year.is) at c.months-this_year.ensures.months)
          (rw (year.is, year.before) at c.months.ensures.months)
          (rw (to_z-of_z c.ranges.low, end) at c.clip_back-2.ensures.clipped);
    }
