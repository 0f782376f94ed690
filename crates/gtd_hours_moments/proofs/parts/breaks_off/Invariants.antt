-- What the last part so far says, and the parts left, is what all say.
use Rattle.std.proofs.Common.{◌≡◌, length}
use Rattle.gtd_hours_moments.specs.Parts.{breaks_off, last_goes_on}
use Rattle.gtd_hours_moments.proofs.parts.breaks_off.Given as goal

abbrev pub invariant-loop-part : goal.invariant-loop-part
invariant-loop-part l = last_goes_on l.last l.rest ≡ breaks_off l.parts

abbrev pub decreases-loop-part : goal.decreases-loop-part
decreases-loop-part l = length l.rest
