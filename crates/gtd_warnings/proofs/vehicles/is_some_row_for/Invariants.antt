use Rattle.gtd_warnings.proofs.VehicleFacts.{NoneServes}
use Rattle.gtd_warnings.proofs.vehicles.is_some_row_for.Given as goal

-- none of the records so far is for the type
abbrev pub invariant-loop-record : goal.invariant-loop-record
invariant-loop-record l = NoneServes l.records l.vehicle l.record-index
