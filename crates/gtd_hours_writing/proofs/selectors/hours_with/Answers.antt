-- The rule is that of the hours.
use Rattle.gtd_hours_writing.proofs.selectors.hours_with.Goals as goal

pub returns : goal.returns
returns c = record {
  rule = c.open_rule-rule.result;
  one = c.in_ok-hours.ensures;
  has = c.open_rule-rule.ensures.has;
  times = c.open_rule-rule.ensures.times;
  opens = c.open_rule-rule.ensures.opens;
}
