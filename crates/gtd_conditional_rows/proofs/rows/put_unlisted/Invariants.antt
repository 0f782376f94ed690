use Rattle.std.proofs.Common.{◌≡◌, ◌++◌, length, not}
use Rattle.std.specs.Prelude.{filter}
use Rattle.gtd_conditional_rows.specs.Rows.{is_listed}
use Rattle.gtd_conditional_rows.proofs.rows.put_unlisted.Given as goal

-- the rows that there were, and those so far that are not among them
abbrev pub invariant-loop-row : goal.invariant-loop-row
invariant-loop-row l =
    (l.rows.items ≡ l.initial.rows.items ++ filter (λ row. not (is_listed row l.initial.rows.items)) l.yielded)
    × (l.count ≡ length l.initial.rows.items)
