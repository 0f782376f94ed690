-- Hours of the same text and month days are of the same rules.
use Rattle.gtd_hours_text.specs.facts.OneMeaning.{same_cost, same_opening, same_text}
use Rattle.gtd_hours_dated.specs.facts.SameDated.{dated_rules}
use Rattle.gtd_hours_dated.proofs.laws.one_meaning.Goals as goal

pub returns-clause-open : goal.returns-clause-open
returns-clause-open c = λ text more one other p q. same_opening one other (dated_rules text more one other p q)

pub returns-clause-cost : goal.returns-clause-cost
returns-clause-cost c = λ text more one other p q. same_cost one other (dated_rules text more one other p q)

pub returns-clause-written : goal.returns-clause-written
returns-clause-written c = λ text more one other p q. same_text one other (dated_rules text more one other p q)
