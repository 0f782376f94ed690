-- So do those of one rule more.
use Rattle.gtd_hours_known.proofs.UntilLemmas.{until_more}
use Rattle.gtd_hours_known.proofs.until.rules_until.Goals as goal

pub loop-rule-preserved : goal.loop-rule-preserved
loop-rule-preserved c =
    rw c.in_ok-push.ensures.items
    (until_more c.args.known c.args.marks.now c.loop-rule.yielded c.loop-rule.made.items c.in-Some.rule c.in_ok-until.until
    c.loop-rule.invariant c.in_ok-until.ensures)
