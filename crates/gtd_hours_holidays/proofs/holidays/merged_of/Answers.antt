-- The holidays of both kinds, one after the other.
use Rattle.gtd_hours_holidays.proofs.MergedFacts.{both_put}
use Rattle.gtd_hours_holidays.proofs.holidays.merged_of.Goals as goal

pub returns : goal.returns
returns c =
    both_put c.args.rows.now c.new-merged.result.items c.put_kind.new.merged.items c.put_kind-2.new.merged.items
    c.new-merged.ensures.items c.in_ok-put_kind.ensures c.in_ok-put_kind-2.ensures
