-- Outside of 1800 to 2699 no day of the search is in the year; otherwise its months are one run, before the end or not.
use Rattle.std.proofs.Common.{rules, arith, ◌≤ℤ◌, ◌<ℤ◌, pos, FitsSigned, to_z-of_z, w64, ◌⊎◌}
use Rattle.gtd_calendar.specs.facts.Signed.{signed_arith}
use Rattle.gtd_recur.proofs.BackLemmas.{year-last, year-ahead, year-nowhere}
use Rattle.gtd_recur.proofs.jump.last_of_year.Goals as goal

pub returns-then-year-lt1800 : goal.returns-then-year-lt1800
returns-then-year-lt1800 c =
    let outside : (c.args.year <ℤ pos 1800) ⊎ (pos 2699 <ℤ c.args.year) =
    grind (arith, signed_arith, c.then-year-lt1800.branch) in
    record {
      run = rw (to_z-of_z c.ranges.low) (year-nowhere c.args.year c.args.month c.args.low c.args.end c.requires.low_in
          c.requires.order c.requires.end_in outside);
    }

pub returns-else-months-end : goal.returns-else-months-end
returns-else-months-end c =
    let end = to_z-of_z c.ranges.end in let fits : FitsSigned w64 c.months-months.result.from = search rules in
    let past : c.args.end ≤ℤ c.months-months.result.from = omega (arith, signed_arith, c.if-months-end.false) in
    record {
      run = rw (to_z-of_z c.ranges.low) (year-ahead c.args.year c.args.month _ _ _ _ _ _ c.unwrap_or.ensures c.unwrap_or-2.ensures
          (rw (to_z-of_z c.ranges.year) at c.months-months.ensures.months) c.requires.order past);
    }

pub returns-then-months-end : goal.returns-then-months-end
returns-then-months-end c = record {
  run = year-last c.args.year c.args.month _ _ _ _ _ _ _ _ c.unwrap_or.ensures c.unwrap_or-2.ensures
      (rw (to_z-of_z c.ranges.year) at c.months-months.ensures.months)
      (rw (to_z-of_z c.ranges.low, to_z-of_z c.ranges.end) at c.clip_back.ensures.clipped);
}
