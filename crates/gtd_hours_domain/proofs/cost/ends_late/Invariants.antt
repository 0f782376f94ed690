use Rattle.std.proofs.Common.{◌≡◌, length}
use Rattle.gtd_hours.specs.Cost.{ends_late}
use Rattle.gtd_hours_domain.proofs.cost.ends_late.Given as goal

-- what is left decides
abbrev pub invariant-loop-time : goal.invariant-loop-time
invariant-loop-time l = ends_late l.rest ≡ ends_late l.times

abbrev pub decreases-loop-time : goal.decreases-loop-time
decreases-loop-time l = length l.rest
