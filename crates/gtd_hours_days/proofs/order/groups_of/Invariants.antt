use Rattle.std.proofs.Common.{◌*◌, ◌-◌}
use Rattle.gtd_hours_days.proofs.OrderFacts.{AreJoined, rank}
use Rattle.gtd_hours_days.proofs.order.groups_of.Given as goal

-- with the groups after the last one, the groups so far are all
abbrev pub invariant-loop-group : goal.invariant-loop-group
invariant-loop-group l = AreJoined l.found l.after l.groups.items

-- the groups ascend
abbrev pub decreases-loop-group : goal.decreases-loop-group
decreases-loop-group l = 16384 * 13 - rank l.after
