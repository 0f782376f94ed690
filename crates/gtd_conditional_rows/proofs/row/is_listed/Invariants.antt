use Rattle.std.proofs.Common.{◌≡◌, length}
use Rattle.gtd_conditional_rows.specs.Rows.{is_listed}
use Rattle.gtd_conditional_rows.proofs.row.is_listed.Given as goal

-- whether one of the rows that are left is the same
abbrev pub invariant-loop-other : goal.invariant-loop-other
invariant-loop-other l = is_listed l.row l.rest ≡ is_listed l.row l.rows

abbrev pub decreases-loop-other : goal.decreases-loop-other
decreases-loop-other l = length l.rest
