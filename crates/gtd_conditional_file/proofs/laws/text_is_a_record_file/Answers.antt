-- The rows of a file without a fault become restrictions that can be written and read again.
use Rattle.gtd_conditional_file.proofs.AcceptedFacts.{accepted}
use Rattle.gtd_conditional_file.proofs.laws.text_is_a_record_file.Goals as goal

pub returns : goal.returns
returns c = record { accepted = accepted }
