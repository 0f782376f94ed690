-- The first fault by definition and the one computed phase by phase are the same.
use Rattle.gtd_text.specs.facts.Phases.{first_says}
use Rattle.gtd_text.proofs.laws.faults_as_computed.Goals as goal

pub returns : goal.returns
returns c = record { first = first_says }
