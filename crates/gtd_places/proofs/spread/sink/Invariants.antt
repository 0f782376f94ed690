use Rattle.std.proofs.Common.{◌≡◌, length}
use Rattle.std.specs.List.Sorted.{IsPermutation}
use Rattle.gtd_places.proofs.spread.sink.Given as goal

-- the places are those that were given, in another order
abbrev pub invariant-loop-step : goal.invariant-loop-step
invariant-loop-step l = record { moved : IsPermutation l.fn.places l.places; long : length l.places ≡ length l.fn.places }
