use Rattle.gtd_records.specs.Closing.{ClosesOneWay}
use Rattle.gtd_records.proofs.FoundPlaces.{NoneSoFar}
use Rattle.gtd_records.proofs.index.Records.closes_one_way.Given as goal

-- no record at the places so far closes the element in one direction alone
abbrev pub invariant-loop-place : goal.invariant-loop-place
invariant-loop-place l = NoneSoFar l.self-inside.rows.items l.place-items (ClosesOneWay l.element l.vehicle) l.place-index
