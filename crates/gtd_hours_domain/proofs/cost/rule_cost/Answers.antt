-- A count of days that stopped at `u32::MAX` gives the spans the same count as the exact number of days.
use Rattle.std.proofs.Common.{◌∙◌}
use Rattle.gtd_hours.specs.Cost.{days_cost}
use Rattle.gtd_hours_domain.proofs.CostLemmas.{spans-counted}
use Rattle.gtd_hours_domain.proofs.cost.rule_cost.Goals as goal

pub returns : goal.returns
returns c =
    rw (c.as_slice.ensures.value, c.requires) at c.spans_cost.ensures
    ∙ spans-counted (days_cost c.args.rule.now.kinds.items) c.args.rule.now.times.items
