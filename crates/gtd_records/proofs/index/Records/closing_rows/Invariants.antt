use Rattle.gtd_records.proofs.ClosingRowFacts.{AreSoFar}
use Rattle.gtd_records.proofs.index.Records.closing_rows.Given as goal

-- the numbers of the rows so far
abbrev pub invariant-loop-place : goal.invariant-loop-place
invariant-loop-place l = AreSoFar l.self-inside.rows.items l.place-items l.element l.direction l.vehicle l.second.0 l.place-index
    l.rows.items
