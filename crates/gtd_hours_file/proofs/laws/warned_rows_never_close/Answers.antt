-- Only a rule that opens makes a second open, so hours without such a rule are open at none.
use Rattle.gtd_hours_file.proofs.OpeningFacts.{open_by_none}
use Rattle.gtd_hours_file.proofs.laws.warned_rows_never_close.Goals as goal

pub returns : goal.returns
returns c = record { never = λ hours second none held. open_by_none hours.rules.items ⊥ ⊥ second (λ b. b) none held }
