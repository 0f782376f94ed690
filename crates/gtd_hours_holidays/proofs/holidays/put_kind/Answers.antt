-- The runs of the days are the holidays.
use Rattle.gtd_hours_holidays.proofs.MergedFacts.{kind_put}
use Rattle.gtd_hours_holidays.proofs.holidays.put_kind.Goals as goal

pub returns : goal.returns
returns c =
    kind_put c.args.kind c.args.rows.now c.args.merged.now.items c.put_runs.new.merged.items c.in_ok-days.days c.in_ok-runs.runs.items
    c.in_ok-days.ensures c.in_ok-runs.ensures.runs c.in_ok-put_runs.ensures
