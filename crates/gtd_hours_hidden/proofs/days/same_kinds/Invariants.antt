use Rattle.std.proofs.Common.{◌≡◌, length}
use Rattle.gtd_hours_hidden.specs.Hides.{same_kinds}
use Rattle.gtd_hours_hidden.proofs.days.same_kinds.Given as goal

-- the rests decide
abbrev pub invariant-loop-kind : goal.invariant-loop-kind
invariant-loop-kind l = same_kinds l.kinds l.others ≡ same_kinds l.rest l.other_rest

abbrev pub decreases-loop-kind : goal.decreases-loop-kind
decreases-loop-kind l = length l.rest
