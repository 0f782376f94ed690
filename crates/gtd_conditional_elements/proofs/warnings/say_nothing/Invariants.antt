-- If the parts that are left have no lines, all have none.
use Rattle.std.proofs.Common.{◌≡◌, ℕ, List, [], length}
use Rattle.gtd_conditional_elements.specs.Warnings.{parts_lines}
use Rattle.gtd_conditional_elements.proofs.warnings.say_nothing.Given as goal

abbrev pub invariant-loop-part : goal.invariant-loop-part
invariant-loop-part l = (before : List ℕ) → parts_lines before l.rest ≡ [] → parts_lines before l.parts ≡ []

abbrev pub decreases-loop-part : goal.decreases-loop-part
decreases-loop-part l = length l.rest
