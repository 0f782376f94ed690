use Rattle.gtd_conditional_rows.specs.Types.{HasType}
use Rattle.gtd_conditional_file.proofs.NumberFacts.{AreBelow}
use Rattle.gtd_conditional_file.proofs.vehicles.numbers_of.Given as goal

-- the types below the next one
abbrev pub invariant-loop-vehicle : goal.invariant-loop-vehicle
invariant-loop-vehicle l = AreBelow (HasType l.types) l.vehicle l.numbers.items
