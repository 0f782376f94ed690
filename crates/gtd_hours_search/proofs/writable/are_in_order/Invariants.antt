use Rattle.std.proofs.Common.{length}
use Rattle.gtd_hours_search.specs.Order.{InOrder}
use Rattle.gtd_hours_search.proofs.writable.are_in_order.Given as goal

-- if the rest is in order behind the last place, all kinds are
abbrev pub invariant-loop-kind : goal.invariant-loop-kind
invariant-loop-kind l = InOrder l.place l.rest → InOrder 0 l.kinds

abbrev pub decreases-loop-kind : goal.decreases-loop-kind
decreases-loop-kind l = length l.rest
