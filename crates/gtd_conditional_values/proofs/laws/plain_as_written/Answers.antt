-- Plain hours are no text with holidays and none with times, and have no fault.
use Rattle.gtd_conditional_values.proofs.StrictFacts.{plain_fault, plain_hours}
use Rattle.gtd_conditional_values.proofs.laws.plain_as_written.Goals as goal

pub returns-clause-hours : goal.returns-clause-hours
returns-clause-hours c = plain_hours

pub returns-clause-open : goal.returns-clause-open
returns-clause-open c = λ how place text hours given plain is.
    c.one_meaning.ensures.open text given.hours hours (plain_hours how place text hours given plain is) plain

pub returns-clause-fault : goal.returns-clause-fault
returns-clause-fault c = plain_fault
