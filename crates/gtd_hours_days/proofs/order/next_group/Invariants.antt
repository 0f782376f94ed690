use Rattle.std.proofs.Common.{take}
use Rattle.gtd_hours_days.proofs.OrderFacts.{IsBest}
use Rattle.gtd_hours_days.proofs.order.next_group.Given as goal

-- the first of the groups so far
abbrev pub invariant-loop-group : goal.invariant-loop-group
invariant-loop-group l = IsBest (take l.group-index l.found) l.after l.best
