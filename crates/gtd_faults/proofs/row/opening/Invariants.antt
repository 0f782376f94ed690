use Rattle.std.proofs.Common.{◌≡◌, ◌+◌, drop}
use Rattle.gtd_faults.specs.Doubts.{opening}
use Rattle.gtd_faults.proofs.row.opening.Given as goal

-- the parenthesis stands after the bytes so far, and after as many others as are left
abbrev pub invariant-loop-at : goal.invariant-loop-at
invariant-loop-at l = opening l.before l.text ≡ l.at + opening l.left (drop l.at l.text)
