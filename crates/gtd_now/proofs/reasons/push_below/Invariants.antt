use Rattle.std.proofs.Common.{◌≡◌, ◌++◌, length}
use Rattle.gtd_now.specs.Reasons.{below}
use Rattle.gtd_now.proofs.reasons.push_below.Given as goal

-- with what is left, these are all lines
abbrev pub invariant-loop-byte : goal.invariant-loop-byte
invariant-loop-byte l = record { text : l.line.items ++ below l.left ≡ l.initial.line.items ++ below l.lines }

abbrev pub decreases-loop-byte : goal.decreases-loop-byte
decreases-loop-byte l = length l.left
