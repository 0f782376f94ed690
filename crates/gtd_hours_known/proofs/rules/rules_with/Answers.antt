-- One rule more has its holidays.
use Rattle.gtd_hours_known.proofs.RuleFacts.{with_more}
use Rattle.gtd_hours_known.proofs.rules.rules_with.Goals as goal

pub loop-rule-preserved : goal.loop-rule-preserved
loop-rule-preserved c =
    rw c.in_ok-push.ensures.items
    (with_more c.args.from.now c.args.days.now c.loop-rule.yielded c.loop-rule.made.items c.in-Some.rule c.in_ok-with.with
    c.loop-rule.invariant c.in_ok-with.ensures)
