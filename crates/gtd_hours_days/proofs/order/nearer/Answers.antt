-- With one group more, the best so far stays unless the new one comes after the bound and before the best.
use Rattle.gtd_hours_days.proofs.OrderFacts.{nearer_now, no_nearer}
use Rattle.gtd_hours_days.proofs.order.nearer.Goals as goal

pub returns-then-not-is_after : goal.returns-then-not-is_after
returns-then-not-is_after c = λ found is.
    no_nearer found c.args.after c.args.best c.args.group (λ later better. let yes = c.is_after.ensures.1 later in cc) is

pub returns-then-not-is_better : goal.returns-then-not-is_better
returns-then-not-is_better c = λ found is.
    no_nearer found c.args.after c.args.best c.args.group (λ later better. let yes = c.is_better.ensures.1 better in cc) is

pub returns : goal.returns
returns c = λ found is.
    nearer_now found c.args.after c.args.best c.args.group (c.is_after.ensures.0 c.if-not-is_after.false)
    (c.is_better.ensures.0 c.if-not-is_better.false) is
