-- A year behind the dash stands for the last month.
use Rattle.gtd_hours_moves.proofs.GoodItems.{listed_month_to_year_good}
use Rattle.std.proofs.Common.{rules}
use Rattle.gtd_hours_moves.proofs.moves.month_days.date_year_month_dash.Goals as goal

pub returns-in-Some-Number-clause-good : goal.returns-in-Some-Number-clause-good
returns-in-Some-Number-clause-good c =
    rw (c.take.ensures, c.written.ensures) (listed_month_to_year_good c.args.year c.args.month c.in-Some-Number.value
    c.in-Some-Number.digits c.args.next c.args.fits (search rules) c.if-fits.true c.requires.fit c.requires.sound)
