-- One rule more has its month days.
use Rattle.gtd_hours_dated.specs.Dated.{more_of}
use Rattle.gtd_hours_dated.proofs.JoiningLemmas.{dated_more}
use Rattle.gtd_hours_dated.proofs.joining.rules_with_dates.Goals as goal

pub loop-rule-preserved : goal.loop-rule-preserved
loop-rule-preserved c =
    rw c.in_ok-push.ensures.items
    (dated_more (more_of c.args.more.now) c.loop-rule.yielded c.loop-rule.made.items c.in-Some.rule c.in_ok-with.with
    c.loop-rule.invariant c.in_ok-with.ensures)
