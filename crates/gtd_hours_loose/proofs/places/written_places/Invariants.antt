-- The places so far, and those that are left, are all; the parts that are known have all that is written from the last place on.
use Rattle.std.proofs.Common.{◌≡◌, ◌≤◌, ◌++◌, ℕ, length}
use Rattle.std.specs.Prelude.{map}
use Rattle.gtd_hours_loose.specs.Mending.{written_place}
use Rattle.gtd_hours_loose.proofs.places.written_places.Given as goal

abbrev pub invariant-loop-place : goal.invariant-loop-place
invariant-loop-place l = record {
  known : (p end : ℕ) → l.earlier ≤ p → written_place p end l.known ≡ written_place p end l.parts;
  made : l.made.items ++ map (λ (place : ℕ). written_place place l.end l.parts) l.rest
      ≡ map (λ (place : ℕ). written_place place l.end l.parts) l.places;
}

abbrev pub decreases-loop-place : goal.decreases-loop-place
decreases-loop-place l = length l.rest
