-- The selectors have the days of the holidays of the rule.
use Rattle.gtd_hours_known.proofs.rules.days_with.Goals as goal

pub returns-in-Ok-clause-days : goal.returns-in-Ok-clause-days
returns-in-Ok-clause-days c = rw c.as_slice.ensures.value at c.in-Ok.ensures.days
