-- The months behind a year are a kind of their own.
use Rattle.gtd_hours_moves.proofs.GoodItems.{months_behind_good}
use Rattle.std.proofs.Common.{rules}
use Rattle.gtd_hours_moves.proofs.moves.years.month_dash_after_year.Goals as goal

pub returns-in-Some-Month-clause-good : goal.returns-in-Some-Month-clause-good
returns-in-Some-Month-clause-good c =
    rw (c.give.ensures) (months_behind_good c.args.month c.in-Some-Month.field-0-0 c.args.next (search rules) c.requires.sound)
