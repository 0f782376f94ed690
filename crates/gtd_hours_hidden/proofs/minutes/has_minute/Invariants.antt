use Rattle.std.proofs.Common.{◌≡◌, length}
use Rattle.gtd_hours_hidden.specs.Hides.{has_minute}
use Rattle.gtd_hours_hidden.proofs.minutes.has_minute.Given as goal

-- the rest decides
abbrev pub invariant-loop-time : goal.invariant-loop-time
invariant-loop-time l = has_minute l.times l.minute ≡ has_minute l.rest l.minute

abbrev pub decreases-loop-time : goal.decreases-loop-time
decreases-loop-time l = length l.rest
