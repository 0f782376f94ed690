-- The forms so far, and those of the parts left, are those of all parts.
use Rattle.std.proofs.Common.{◌≡◌, ◌++◌, length}
use Rattle.gtd_hours_moments.specs.Parts.{forms_of}
use Rattle.gtd_hours_moments.proofs.parts.forms_of.Given as goal

abbrev pub invariant-loop-part : goal.invariant-loop-part
invariant-loop-part l = l.forms.items ++ forms_of l.rest ≡ forms_of l.parts

abbrev pub decreases-loop-part : goal.decreases-loop-part
decreases-loop-part l = length l.rest
