-- The parts passed begin before the place, so no later place is theirs.
use Rattle.std.proofs.Common.{◌≡◌, ◌≤◌, ℕ, length}
use Rattle.gtd_hours_loose.specs.Mending.{written_place}
use Rattle.gtd_hours_loose.proofs.places.parts_from.Given as goal

abbrev pub invariant-loop-part : goal.invariant-loop-part
invariant-loop-part l = (p end : ℕ) → l.place ≤ p → written_place p end l.rest ≡ written_place p end l.parts

abbrev pub decreases-loop-part : goal.decreases-loop-part
decreases-loop-part l = length l.rest
