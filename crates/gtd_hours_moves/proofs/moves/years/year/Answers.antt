-- A year that begins a rule may go on with `-`, `/` or `+`, and is a piece by itself where nothing of its own follows.
use Rattle.gtd_hours_moves.proofs.GoodItems.{year_dash_good, year_good, year_plus_good, year_slash_good}
use Rattle.std.proofs.Common.{rules}
use Rattle.gtd_hours_moves.proofs.moves.years.year.Goals as goal

pub returns-in-Some-Dash-clause-good : goal.returns-in-Some-Dash-clause-good
returns-in-Some-Dash-clause-good c =
    rw (c.take-in-Some-Dash.ensures) (year_dash_good c.args.n c.args.next (search rules) c.requires.sound)

pub returns-in-Some-Slash-clause-good : goal.returns-in-Some-Slash-clause-good
returns-in-Some-Slash-clause-good c =
    rw (c.take-in-Some-Slash.ensures) (year_slash_good c.args.n c.args.next (search rules) c.requires.sound)

pub returns-in-Some-Plus-clause-good : goal.returns-in-Some-Plus-clause-good
returns-in-Some-Plus-clause-good c =
    rw (c.years_on.ensures) (year_plus_good c.args.n c.args.next (search rules) c.requires.sound)

pub returns-in_default-clause-good : goal.returns-in_default-clause-good
returns-in_default-clause-good c =
    rw (c.give.ensures, c.one_year.ensures) (year_good c.args.n c.args.next (λ ts. search rules) c.requires.sound)
