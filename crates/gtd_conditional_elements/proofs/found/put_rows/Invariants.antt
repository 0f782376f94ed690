use Rattle.std.proofs.Common.{◌≡◌, ◌++◌, map}
use Rattle.gtd_conditional_rows.specs.declared.row.Row.{Row}
use Rattle.gtd_conditional_elements.proofs.found.put_rows.Given as goal

-- the rows that there were, and those so far with their element
abbrev pub invariant-loop-row : goal.invariant-loop-row
invariant-loop-row l =
    l.rows.items ≡ l.initial.rows.items ++ map (λ (row : Row). record { element = l.element; row = row }) l.yielded
