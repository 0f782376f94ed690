use Rattle.std.proofs.Common.{◌↔◌, length}
use Rattle.gtd_conditional_rows.specs.Rows.{Some'}
use Rattle.gtd_conditional_rows.specs.Types.{HasType}
use Rattle.gtd_conditional_rows.proofs.groups.is_grouped.Given as goal

-- whether one of the rows that are left has the type
abbrev pub invariant-loop-row : goal.invariant-loop-row
invariant-loop-row l =
    Some' (λ row. HasType row.types l.vehicle) l.rest ↔ Some' (λ row. HasType row.types l.vehicle) l.rows

abbrev pub decreases-loop-row : goal.decreases-loop-row
decreases-loop-row l = length l.rest
