-- The warnings passed and those of the rest that are not behind the place are together all that are not.
use Rattle.std.proofs.Common.{◌≡◌, ◌+◌, length}
use Rattle.std.specs.List.{prefix_len}
use Rattle.gtd_hours_warnings.specs.Warnings.{is_by}
use Rattle.gtd_hours_warnings.proofs.warnings.count_by.Given as goal

abbrev pub invariant-loop-warning : goal.invariant-loop-warning
invariant-loop-warning l =
    (l.count + prefix_len (is_by l.place) l.rest ≡ prefix_len (is_by l.place) l.warnings)
    × (l.count + length l.rest ≡ length l.warnings)

abbrev pub decreases-loop-warning : goal.decreases-loop-warning
decreases-loop-warning l = length l.rest
