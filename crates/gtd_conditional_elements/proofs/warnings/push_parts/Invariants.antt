-- The lines put so far and those of the parts left are together the lines of all.
use Rattle.std.proofs.Common.{◌≡◌, ◌++◌, length}
use Rattle.gtd_conditional_elements.specs.Warnings.{parts_lines}
use Rattle.gtd_conditional_elements.proofs.warnings.push_parts.Given as goal

abbrev pub invariant-loop-part : goal.invariant-loop-part
invariant-loop-part l =
    l.out.items ++ parts_lines l.before l.rest ≡ l.initial.out.items ++ parts_lines l.before l.parts

abbrev pub decreases-loop-part : goal.decreases-loop-part
decreases-loop-part l = length l.rest
