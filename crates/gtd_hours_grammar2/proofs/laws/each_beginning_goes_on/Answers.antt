use Rattle.gtd_hours_grammar2.proofs.Completing.{longest}
use Rattle.gtd_hours_grammar2.proofs.laws.each_beginning_goes_on.Goals as goal

pub returns : goal.returns
returns c = longest
