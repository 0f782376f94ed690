use Rattle.gtd_hours_moving.specs.facts.FirstTokens.{first_easter, first_tokens}
use Rattle.gtd_hours_moving.proofs.laws.first_tokens.Goals as goal

pub returns-clause-always : goal.returns-clause-always
returns-clause-always c = first_tokens

pub returns-clause-easter : goal.returns-clause-easter
returns-clause-easter c = first_easter
