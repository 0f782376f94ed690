-- The rules counted so far and those of the rest are together those of all.
use Rattle.std.proofs.Common.{◌≡◌, ◌+◌, ◌≤◌, length}
use Rattle.gtd_hours_warnings.specs.Commas.{count_instead}
use Rattle.gtd_hours_warnings.proofs.commas.count_instead.Given as goal

abbrev pub invariant-loop-rule : goal.invariant-loop-rule
invariant-loop-rule l =
    (l.count + count_instead l.rest ≡ count_instead l.rules) × (l.count + length l.rest ≤ length l.rules)

abbrev pub decreases-loop-rule : goal.decreases-loop-rule
decreases-loop-rule l = length l.rest
