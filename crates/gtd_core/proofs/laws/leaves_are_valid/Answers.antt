-- The starts and durations of an expression carry their ranges, so its tree is valid through and through.
use Rattle.gtd_core.specs.facts.Leaves.{leaves_are_valid}
use Rattle.gtd_core.proofs.laws.leaves_are_valid.Goals as goal

pub returns : goal.returns
returns c = record { valid = leaves_are_valid }
