use Rattle.gtd_records.proofs.SoleFacts.{SoleSoFar}
use Rattle.gtd_records.proofs.index.Records.sole_row.Given as goal

-- the row of the records so far
abbrev pub invariant-loop-at : goal.invariant-loop-at
invariant-loop-at l =
    SoleSoFar l.self-inside.rows.items l.places l.element l.direction l.vehicle l.sole l.at
