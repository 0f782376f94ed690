-- The rows put are those of both kinds, and have the holidays of the table.
use Rattle.gtd_hours_holidays.proofs.MergedFacts.{same_if}
use Rattle.gtd_hours_holidays.proofs.holidays.Holidays.new.Goals as goal

pub invariant_of-result : goal.invariant_of-result
invariant_of-result c = record {
  same = same_if c.args.rows.items c.in_ok-merged.merged.items (rw c.as_slice-2.ensures.value at c.in_ok-merged.ensures);
}
