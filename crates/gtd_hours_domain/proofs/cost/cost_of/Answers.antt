-- One rule more keeps the count of all rules, which stays at `u32::MAX` once it has reached it.
use Rattle.std.proofs.Common.{arith}
use Rattle.gtd_hours.specs.Cost.{cost_after}
use Rattle.gtd_hours_domain.proofs.CostLemmas.{left-after, one_more-cost}
use Rattle.gtd_hours_domain.proofs.cost.cost_of.Goals as goal

pub loop-rule-preserved : goal.loop-rule-preserved
loop-rule-preserved c = (
  omega (arith, c.open_cost_by-opened.ensures),
  one_more-cost c.loop-rule.opened c.loop-rule.closed c.open_cost_by-opened.result c.closed_cost_if-later.result
      (cost_after c.args.hours.now.rules.items 0 0) c.saturating_sub-left.result c.loop-rule.left c.in-Some.rule.now
      c.in-Some.more.now c.loop-rule.rest.now c.in-Some.ensures.cases.0 c.loop-rule.invariant.2 c.saturating_sub-left.ensures
      c.open_cost_by-opened.ensures c.closed_cost_if-later.ensures c.loop-rule.invariant.1,
  left-after c.saturating_sub-left.result c.loop-rule.left c.in-Some.rule.now c.in-Some.more.now c.loop-rule.rest.now
      c.in-Some.ensures.cases.0 c.loop-rule.invariant.2 c.saturating_sub-left.ensures,
)
