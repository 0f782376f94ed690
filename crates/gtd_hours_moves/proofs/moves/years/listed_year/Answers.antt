-- A further year with `+` goes on to the last one of the calendar, and without a sign it is a piece by itself.
use Rattle.std.proofs.Common.{rules}
use Rattle.gtd_hours_moves.proofs.GoodItems.{listed_plus_good, listed_year_good}
use Rattle.gtd_hours_moves.proofs.moves.years.listed_year.Goals as goal

pub returns-in-Some-Plus-clause-good : goal.returns-in-Some-Plus-clause-good
returns-in-Some-Plus-clause-good c =
    rw (c.years_on.ensures) (listed_plus_good c.args.n c.args.next (search rules) c.requires.sound)

pub returns-in_default-clause-good : goal.returns-in_default-clause-good
returns-in_default-clause-good c =
    rw (c.give.ensures, c.one_year.ensures) (listed_year_good c.args.n c.args.next c.requires.sound)
