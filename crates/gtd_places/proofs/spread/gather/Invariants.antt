use Rattle.std.proofs.Common.{◌≡◌, length}
use Rattle.std.specs.List.Sorted.{IsPermutation}
use Rattle.gtd_places.proofs.spread.gather.Given as goal

-- the places are those that were given, in another order
abbrev pub invariant-loop : goal.invariant-loop
invariant-loop l = record { moved : IsPermutation l.fn.places l.places; long : length l.places ≡ length l.fn.places }
