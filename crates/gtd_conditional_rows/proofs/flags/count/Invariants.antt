use Rattle.std.proofs.Common.{◌≡◌, ◌+◌, ◌≤◌, length}
use Rattle.gtd_conditional_rows.specs.Flags.{count_true}
use Rattle.gtd_conditional_rows.proofs.flags.count.Given as goal

-- what is counted so far, with the rest
abbrev pub invariant-loop-flag : goal.invariant-loop-flag
invariant-loop-flag l = (l.total + count_true l.rest ≡ count_true l.flags) × (l.total + length l.rest ≤ length l.flags)

abbrev pub decreases-loop-flag : goal.decreases-loop-flag
decreases-loop-flag l = length l.rest
