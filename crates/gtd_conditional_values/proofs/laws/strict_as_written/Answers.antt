-- A text that is read strictly has no strict form of its own.
use Rattle.gtd_conditional_values.proofs.StrictFacts.{strict_fault, strict_hours}
use Rattle.gtd_conditional_values.proofs.laws.strict_as_written.Goals as goal

pub returns : goal.returns
returns c = record { hours = strict_hours; fault = strict_fault }
