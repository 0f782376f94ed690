-- A day is a holiday by the one if it is one by the other, since both can be decided.
use Rattle.gtd_hours_holidays.proofs.MergedFacts.{same_days}
use Rattle.gtd_hours_holidays.proofs.holidays.Holidays.merged.Goals as goal

pub returns : goal.returns
returns c = record {
  same = rw c.as_slice.ensures.value (same_days c.args.self.now.rows.items c.args.self.now.merged.items c.args.self.now.same);
}
