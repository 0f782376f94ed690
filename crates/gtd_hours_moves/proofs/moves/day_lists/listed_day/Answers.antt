-- A day behind a comma begins a range, or is the `24` of a rule `24/7`, or is a date by itself.
use Rattle.gtd_hours_moves.proofs.GoodItems.{listed_dash_good, listed_day_good, listed_slash_good}
use Rattle.std.proofs.Common.{rules}
use Rattle.gtd_hours_moves.proofs.moves.day_lists.listed_day.Goals as goal

pub returns-in-Some-Dash-clause-good : goal.returns-in-Some-Dash-clause-good
returns-in-Some-Dash-clause-good c =
    rw (c.take.ensures) (listed_dash_good c.args.day c.args.next (search rules) c.requires.sound)

pub returns-then-day-eq2-clause-good : goal.returns-then-day-eq2-clause-good
returns-then-day-eq2-clause-good c =
    rw (c.complete.ensures) (listed_slash_good c.args.day c.args.next (search rules) (search rules) (search rules))

pub returns-in_default-clause-good : goal.returns-in_default-clause-good
returns-in_default-clause-good c = rw (c.give.ensures) (listed_day_good c.args.day c.args.next c.requires.sound)
