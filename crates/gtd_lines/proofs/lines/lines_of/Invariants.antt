use Rattle.std.proofs.Common.{◌-◌, length}
use Rattle.gtd_lines.proofs.CountFacts.{AreLinesSoFar}
use Rattle.gtd_lines.proofs.lines.lines_of.Given as goal

-- each row so far has its line, and the next record begins at the place
abbrev pub invariant-loop-place : goal.invariant-loop-place
invariant-loop-place l = AreLinesSoFar l.bytes l.lines.items l.place

-- each record takes some bytes
abbrev pub decreases-loop-place : goal.decreases-loop-place
decreases-loop-place l = length l.bytes - l.place.at
