-- Each group put is the next one after the last; where none comes after it, all have been put, each once.
use Rattle.gtd_hours_days.proofs.OrderFacts.{all_joined}
use Rattle.gtd_hours_days.proofs.order.groups_of.Goals as goal

pub returns : goal.returns
returns c = all_joined c.args.found.now c.loop-group.groups.items c.loop-group.after c.loop-group.invariant c.in_default.ensures
