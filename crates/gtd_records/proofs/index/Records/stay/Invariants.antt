use Rattle.gtd_core.specs.Whole.{whole}
use Rattle.gtd_eval.specs.Stays.{IsStay}
use Rattle.gtd_records.proofs.StayFacts.{ClosesSoFar}
use Rattle.gtd_records.proofs.index.Records.stay.Given as goal

-- how long the records so far stay as they are
abbrev pub invariant-loop-at : goal.invariant-loop-at
invariant-loop-at l =
    IsStay (ClosesSoFar l.self-inside.rows.items l.places l.element l.direction l.vehicle l.at) l.second.0
    (whole l.horizon).until l.stay
