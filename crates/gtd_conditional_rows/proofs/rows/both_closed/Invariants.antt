use Rattle.std.proofs.Common.{◌≡◌}
use Rattle.std.specs.Prelude.{map}
use Rattle.gtd_conditional_rows.specs.Groups.{with_both}
use Rattle.gtd_conditional_rows.proofs.rows.both_closed.Given as goal

-- the rows so far, with both directions closed
abbrev pub invariant-loop-row : goal.invariant-loop-row
invariant-loop-row l = l.both.items ≡ map with_both l.yielded
