use Rattle.std.proofs.Common.{◌≡◌, ◌++◌}
use Rattle.gtd_conditional_elements.proofs.element.put_rows.Given as goal

-- the rows that there were, and the others so far
abbrev pub invariant-loop-row : goal.invariant-loop-row
invariant-loop-row l = l.rows.items ≡ l.initial.rows.items ++ l.yielded
