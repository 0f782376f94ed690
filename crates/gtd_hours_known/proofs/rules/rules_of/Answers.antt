-- The rule of the own text has the holidays on their days.
use Rattle.gtd_hours_known.proofs.GivenFacts.{rule_given}
use Rattle.gtd_hours_known.proofs.rules.rules_of.Goals as goal

pub holiday_days-requires : goal.holiday_days-requires
holiday_days-requires c = (rule_given c.args.known.now c.args.from.now c.requires.given).1

pub returns-clause-rules : goal.returns-clause-rules
returns-clause-rules c = record {
  plain = c.in_ok-plain.plain;
  days = c.in_ok-days.days.items;
  own = c.in_ok-plain.ensures.hours;
  listed = c.in_ok-days.ensures.days;
  are = rw c.as_slice.ensures.value at c.in_ok-made.ensures;
}
