-- The lines put so far and those of the terms left are together the lines of all.
use Rattle.std.proofs.Common.{◌≡◌, ◌++◌, length}
use Rattle.gtd_conditional_elements.specs.Warnings.{terms_lines}
use Rattle.gtd_conditional_elements.proofs.warnings.push_terms.Given as goal

abbrev pub invariant-loop-term : goal.invariant-loop-term
invariant-loop-term l =
    l.out.items ++ terms_lines l.before l.rest ≡ l.initial.out.items ++ terms_lines l.before l.terms

abbrev pub decreases-loop-term : goal.decreases-loop-term
decreases-loop-term l = length l.rest
