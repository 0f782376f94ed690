-- A day within its month stays there, one beyond it is carried into the next, and one beyond a February has no answer.
use Rattle.std.proofs.Common.{rules, ◌∙◌}
use Rattle.gtd_ends.proofs.DayFacts.{next_month, no_ends, past_february, same_month}
use Rattle.gtd_ends.proofs.date.+days_on.Goals as goal

pub returns-then-ends-eq0 : goal.returns-then-ends-eq0
returns-then-ends-eq0 t c =
    no_ends c.args.ends c.args.year c.args.month c.args.day c.args.days (search rules)

pub returns-then-day-days : goal.returns-then-day-days
returns-then-day-days t c =
    same_month c.args.ends c.args.year c.args.month c.args.day c.args.days c.sure_length-length.result (search rules)
    c.sure_length-length.ensures.value (search rules)

pub returns-then-month-eq2 : goal.returns-then-month-eq2
returns-then-month-eq2 t c =
    past_february c.args.ends c.args.year c.args.month c.args.day c.args.days c.sure_length-length.result (search rules)
    c.sure_length-length.ensures.value (search rules) (search rules)

pub returns : goal.returns
returns t c = c.days_on.ensures
    ∙ next_month c.args.ends c.args.year c.args.month c.args.day c.args.days c.sure_length-length.result (search rules)
    c.sure_length-length.ensures.value (search rules) (search rules)
