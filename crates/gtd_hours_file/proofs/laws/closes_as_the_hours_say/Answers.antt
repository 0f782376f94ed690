-- Rows and the restrictions that they are translated to are one for one, so they are as many.
use Rattle.gtd_hours_file.proofs.TranslatedFacts.{same_count}
use Rattle.gtd_hours_file.proofs.laws.closes_as_the_hours_say.Goals as goal

pub returns-clause-count : goal.returns-clause-count
returns-clause-count c = same_count
