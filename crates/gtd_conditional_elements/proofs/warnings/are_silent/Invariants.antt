-- If the terms that are left have no lines, all have none.
use Rattle.std.proofs.Common.{◌≡◌, ℕ, List, [], length}
use Rattle.gtd_conditional_elements.specs.Warnings.{terms_lines}
use Rattle.gtd_conditional_elements.proofs.warnings.are_silent.Given as goal

abbrev pub invariant-loop-term : goal.invariant-loop-term
invariant-loop-term l = (before : List ℕ) → terms_lines before l.rest ≡ [] → terms_lines before l.terms ≡ []

abbrev pub decreases-loop-term : goal.decreases-loop-term
decreases-loop-term l = length l.rest
