-- Hours of the same text are open at the same seconds, take as many basic domains, and have the same written text.
use Rattle.gtd_hours_text.specs.facts.OneMeaning.{one_cost, one_opening, one_text}
use Rattle.gtd_hours_text.proofs.laws.one_meaning.Goals as goal

pub returns-clause-open : goal.returns-clause-open
returns-clause-open c = one_opening

pub returns-clause-cost : goal.returns-clause-cost
returns-clause-cost c = one_cost

pub returns-clause-written : goal.returns-clause-written
returns-clause-written c = one_text
