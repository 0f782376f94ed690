-- Everything from the start to the place is spaces, and the place is within the text.
use Rattle.std.proofs.Common.{◌≤◌, ◌-◌, length}
use Rattle.gtd_scan.specs.Spaces.{AreSpaces}
use Rattle.gtd_scan.proofs.spaces.after_spaces.Given as goal

abbrev pub invariant-loop-place : goal.invariant-loop-place
invariant-loop-place l = record { inside : l.place ≤ length l.text; spaces : AreSpaces l.text l.from l.place }

abbrev pub decreases-loop-place : goal.decreases-loop-place
decreases-loop-place l = length l.text - l.place
