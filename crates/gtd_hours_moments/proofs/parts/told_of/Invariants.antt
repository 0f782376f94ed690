-- The tokens so far, and those of the parts left, are those of all parts.
use Rattle.std.proofs.Common.{◌≡◌, ◌++◌, length}
use Rattle.gtd_hours_moments.specs.Parts.{told_of}
use Rattle.gtd_hours_moments.proofs.parts.told_of.Given as goal

abbrev pub invariant-loop-part : goal.invariant-loop-part
invariant-loop-part l = l.told.items ++ told_of l.rest ≡ told_of l.parts

abbrev pub decreases-loop-part : goal.decreases-loop-part
decreases-loop-part l = length l.rest
