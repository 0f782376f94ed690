-- The last month completes the range.
use Rattle.gtd_hours_moves.proofs.GoodItems.{months_end_good}
use Rattle.std.proofs.Common.{rules}
use Rattle.gtd_hours_moves.proofs.moves.month_days.months_year.Goals as goal

pub returns-in-Some-Month-clause-good : goal.returns-in-Some-Month-clause-good
returns-in-Some-Month-clause-good c =
    rw (c.complete.ensures, c.days_of_months.ensures) (months_end_good c.args.first c.args.last c.args.month
    c.in-Some-Month.last_month c.args.next c.args.fits (search rules) c.if-fits.true c.requires.fit c.requires.sound)
