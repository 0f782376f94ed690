use Rattle.gtd_records.specs.Closing.{Closes}
use Rattle.gtd_records.proofs.FoundPlaces.{NoneSoFar}
use Rattle.gtd_records.proofs.index.Records.closed_at.Given as goal

-- no record at the places so far closes the element
abbrev pub invariant-loop-place : goal.invariant-loop-place
invariant-loop-place l =
    NoneSoFar l.self l.place-items (Closes l.element l.direction l.vehicle l.second.0) l.place-index
