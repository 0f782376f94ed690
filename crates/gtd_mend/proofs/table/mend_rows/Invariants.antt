use Rattle.std.proofs.Common.{◌-◌, length}
use Rattle.gtd_mend.proofs.TableFacts.{RowsSoFar}
use Rattle.gtd_mend.proofs.table.mend_rows.Given as goal

-- the rows so far
abbrev pub invariant-loop-at : goal.invariant-loop-at
invariant-loop-at l = RowsSoFar l.path (l.separator) l.text l.at l.line l.table

abbrev pub decreases-loop-at : goal.decreases-loop-at
decreases-loop-at l = length l.text - l.at
