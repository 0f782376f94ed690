-- The runs so far cover the set up to the day reached; where no more run comes, or the calendar ends, they are all.
use Rattle.std.proofs.Common.{rules, ◌≡◌, arith, pos, ◌+ℤ◌, FitsSigned, w64, to_z-of_z}
use Rattle.gtd_calendar.specs.facts.Signed.{signed_arith}
use Rattle.gtd_hours_holidays.proofs.RunFacts.{all_joined, joined_more, none_left}
use Rattle.gtd_hours_holidays.proofs.runs.runs_of.Goals as goal

pub returns-in_default : goal.returns-in_default
returns-in_default c = record {
  runs = all_joined c.args.days.now _ c.loop-from.runs.items c.loop-from.invariant.joins c.in_default.ensures;
}

pub loop-from-preserved : goal.loop-from-preserved
loop-from-preserved c =
    let found = c.in-Some.run' in
    let fits : FitsSigned w64 c.day_after-from.result = search rules in
    let fits_last : FitsSigned w64 found.last = search rules in
    let e : c.day_after-from.result ≡ found.last +ℤ pos 1 = rw (to_z-of_z fits_last) at c.day_after-from.ensures.after in
    let low = found.last_in.0 in
    let high = found.last_in.1 in
    record {
      low = rw (to_z-of_z fits, e) (omega (arith, signed_arith, low));
      high = rw (to_z-of_z fits, e) (omega (arith, signed_arith, high));
      joins = rw (to_z-of_z fits, e, c.in_ok-push.ensures.items) (joined_more c.args.days.now _ c.loop-from.runs.items found
          c.loop-from.invariant.joins c.in-Some.ensures);
    }

pub returns : goal.returns
returns c = record {
  runs = all_joined c.args.days.now _ c.loop-from.runs.items c.loop-from.invariant.joins
      (none_left c.args.days.now _ (omega (arith, signed_arith)));
}
