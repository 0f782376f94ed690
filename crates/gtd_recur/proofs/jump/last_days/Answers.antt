-- A week given leaves the year to the week, so that only the month counts; otherwise year and month make the run.
use Rattle.std.proofs.Common.{arith, ◌≡◌, pos, true, to_z, of_z, to_z-of_z, w64, is_some, ◌⊎◌, None}
use Rattle.gtd_calendar.specs.facts.Signed.{signed_arith}
use Rattle.gtd_recur.proofs.BackLemmas.{last-same}
use Rattle.gtd_recur.proofs.JumpLemmas.{same-year, same-month}
use Rattle.gtd_recur.proofs.jump.last_days.Goals as goal

pub returns-in-Some : goal.returns-in-Some
returns-in-Some c = record {
  run = last-same _ _ _ _ _ _ (same-year c.args.start.now c.in-Some.year c.if-is_none.ensures c.in-Some.is)
      (let given : to_z w64 (of_z w64 c.from.result) ≡ pos c.in-Some.year = omega (arith, signed_arith) in
      rw (to_z-of_z c.ranges.low, to_z-of_z c.ranges.end, given) at c.last_of_year.ensures.run);
}

pub returns-in-Some-month : goal.returns-in-Some-month
returns-in-Some-month c =
    let free : (is_some c.args.start.now.week ≡ true) ⊎ (c.args.start.now.year ≡ None) = grind (arith, c.if-is_none.branch) in
    record {
      run = last-same _ _ _ _ _ _ (same-month c.args.start.now c.in-Some-month.month free c.in-Some-month.is)
          (rw (to_z-of_z c.ranges.low, to_z-of_z c.ranges.end) at c.last_of_month.ensures.run);
    }
