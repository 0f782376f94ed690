use Rattle.gtd_records.proofs.ClosedWhenFacts.{WhenSoFar}
use Rattle.gtd_records.proofs.index.Records.closed_direction.Given as goal

-- what the records so far show
abbrev pub invariant-loop-place : goal.invariant-loop-place
invariant-loop-place l =
    WhenSoFar l.self-inside.rows.items l.at.element l.at.direction l.vehicle l.places l.when l.place-index
