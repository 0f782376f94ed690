use Rattle.std.proofs.Common.{◌≡◌, length}
use Rattle.std.specs.List.Sorted.{IsPermutation}
use Rattle.gtd_places.proofs.spread.settle.Given as goal

-- the places are those that were given, in another order
abbrev pub invariant-loop-at : goal.invariant-loop-at
invariant-loop-at l = record { moved : IsPermutation l.fn.places l.places; long : length l.places ≡ length l.fn.places }
