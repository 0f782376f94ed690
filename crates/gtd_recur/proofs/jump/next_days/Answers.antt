-- A week given leaves the year to the week, so that only the month counts; otherwise year and month make the run.
use Rattle.std.proofs.Common.{arith, inl, inr, ◌≡◌, pos, true, to_z, of_z, to_z-of_z, w64, is_some, ◌⊎◌, None}
use Rattle.gtd_calendar.specs.facts.Signed.{signed_arith}
use Rattle.gtd_recur.proofs.JumpLemmas.{run-same, same-year, same-month}
use Rattle.gtd_recur.proofs.jump.next_days.Goals.{then-is_none+in_default, else-is_none}
use Rattle.gtd_recur.proofs.jump.next_days.Goals as goal

pub returns-in-Some : goal.returns-in-Some
returns-in-Some c =
    let given : to_z w64 (of_z w64 c.from.result) ≡ pos c.in-Some.year = omega (arith, signed_arith) in
    record {
      run = run-same _ _ _ _ _ _ (same-year c.args.start.now c.in-Some.year c.if-is_none.ensures c.in-Some.is)
          (rw (to_z-of_z c.ranges.day, to_z-of_z c.ranges.end, given) at c.days_of_year.ensures.run);
    }

pub returns-in-Some-month : goal.returns-in-Some-month
returns-in-Some-month c =
    let free : (is_some c.args.start.now.week ≡ true) ⊎ (c.args.start.now.year ≡ None) = elim c.if-is_none.branch [
      | then-is_none+in_default w ↦ inr w.in_default.is
      | else-is_none w ↦ inl (w.if-is_none.ensures)
    ] in
    record {
      run = run-same _ _ _ _ _ _ (same-month c.args.start.now c.in-Some-month.month free c.in-Some-month.is)
          (rw (to_z-of_z c.ranges.day, to_z-of_z c.ranges.end) at c.days_of_month.ensures.run);
    }
