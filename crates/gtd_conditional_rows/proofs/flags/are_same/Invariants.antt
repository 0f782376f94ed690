use Rattle.std.proofs.Common.{◌≡◌, length}
use Rattle.gtd_conditional_rows.specs.Flags.{same_flags}
use Rattle.gtd_conditional_rows.proofs.flags.are_same.Given as goal

-- whether what is left of both is the same
abbrev pub invariant-loop-flag : goal.invariant-loop-flag
invariant-loop-flag l = same_flags l.rest l.other ≡ same_flags l.first l.second

abbrev pub decreases-loop-flag : goal.decreases-loop-flag
decreases-loop-flag l = length l.rest
