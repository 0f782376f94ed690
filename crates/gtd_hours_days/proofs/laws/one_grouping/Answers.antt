-- Sets of the same days have the same runs and groups, and so need the same number of basic domains.
use Rattle.gtd_hours_days.proofs.OneGrouping.{one_cost, one_way}
use Rattle.gtd_hours_days.proofs.laws.one_grouping.Goals as goal

pub returns-clause-way : goal.returns-clause-way
returns-clause-way c = one_way

pub returns-clause-cost : goal.returns-clause-cost
returns-clause-cost c = one_cost
