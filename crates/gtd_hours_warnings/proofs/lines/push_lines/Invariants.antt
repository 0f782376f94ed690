-- The lines put so far and those of the warnings left are together the lines of all.
use Rattle.std.proofs.Common.{◌≡◌, ◌++◌, length}
use Rattle.gtd_hours_warnings.specs.Lines.{warning_lines}
use Rattle.gtd_hours_warnings.proofs.lines.push_lines.Given as goal

abbrev pub invariant-loop-warning : goal.invariant-loop-warning
invariant-loop-warning l =
    l.out.items ++ warning_lines l.before l.rest ≡ l.initial.out.items ++ warning_lines l.before l.warnings

abbrev pub decreases-loop-warning : goal.decreases-loop-warning
decreases-loop-warning l = length l.rest
