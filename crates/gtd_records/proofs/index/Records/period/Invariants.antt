use Rattle.gtd_records.proofs.PeriodFacts.{RepeatSoFar}
use Rattle.gtd_records.proofs.index.Records.period.Given as goal

-- the records so far repeat from the longest period on
abbrev pub invariant-loop-place : goal.invariant-loop-place
invariant-loop-place l =
    RepeatSoFar l.longest l.self-inside.rows.items l.place-items l.element l.direction l.vehicle l.place-index
