-- Outside of 1800 to 2699 no day of the search is in the year; otherwise its months are one run, ahead or over.
use Rattle.std.proofs.Common.{rules, arith, inl, inr, ◌≡◌, ◌≤ℤ◌, ◌<ℤ◌, pos, FitsSigned, to_z, of_z, to_z-of_z, w64, ◌⊎◌}
use Rattle.gtd_calendar.specs.facts.Signed.{signed_arith}
use Rattle.gtd_recur.proofs.JumpLemmas.{year-run, year-past, year-never}
use Rattle.gtd_recur.proofs.jump.days_of_year.Goals.{then-year-lt1800-via-then-year-lt1800}
use Rattle.gtd_recur.proofs.jump.days_of_year.Goals.{then-year-lt1800-via-else-year-lt1800+then-year-gt2699}
use Rattle.gtd_recur.proofs.jump.days_of_year.Goals as goal

pub returns-then-year-lt1800 : goal.returns-then-year-lt1800
returns-then-year-lt1800 c =
    let end : to_z w64 (of_z w64 c.args.end) ≡ c.args.end = to_z-of_z c.ranges.end in
    let outside : (c.args.year <ℤ pos 1800) ⊎ (pos 2699 <ℤ c.args.year) = elim c.then-year-lt1800.branch [
      | then-year-lt1800-via-then-year-lt1800 w ↦ inl (omega (arith, signed_arith, w.if-year-lt1800.true))
      | then-year-lt1800-via-else-year-lt1800+then-year-gt2699 w ↦ inr (omega (arith, signed_arith, w.if-year-gt2699.true))
    ] in
    record {
      run = rw end (year-never c.args.year c.args.month c.args.day c.args.end c.requires.day_in c.requires.order
          c.requires.end_in outside);
    }

pub returns-then-day-months : goal.returns-then-day-months
returns-then-day-months c = record {
  run = year-run c.args.year c.args.month _ _ _ _ _ _ _ _ c.unwrap_or.ensures c.unwrap_or-2.ensures
      (rw (to_z-of_z c.ranges.year) at c.months-months.ensures.months)
      (rw (to_z-of_z c.ranges.day, to_z-of_z c.ranges.end) at c.clip.ensures.clipped);
}

pub returns-else-day-months : goal.returns-else-day-months
returns-else-day-months c =
    let fits : FitsSigned w64 c.months-months.result.until = search rules in
    let past : c.months-months.result.until ≤ℤ c.args.day = omega (arith, signed_arith, c.if-day-months.false) in
    record {
      run = rw (to_z-of_z c.ranges.end) (year-past c.args.year c.args.month _ _ _ _ _ _ c.unwrap_or.ensures c.unwrap_or-2.ensures
          (rw (to_z-of_z c.ranges.year) at c.months-months.ensures.months) c.requires.order past);
    }
