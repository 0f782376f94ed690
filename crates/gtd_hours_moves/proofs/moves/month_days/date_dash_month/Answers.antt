-- A number in range behind `Dec 24-Jan` is the day of the last date, and completes the range.
use Rattle.gtd_hours_moves.proofs.GoodItems.{date_dash_month_good}
use Rattle.std.proofs.Common.{rules}
use Rattle.gtd_hours_moves.proofs.moves.month_days.date_dash_month.Goals as goal

pub returns-in-Some-Number-clause-good : goal.returns-in-Some-Number-clause-good
returns-in-Some-Number-clause-good c =
    rw (c.dates_end.ensures, c.written.ensures) (date_dash_month_good c.args.first c.args.year c.args.month
    c.in-Some-Number.value c.in-Some-Number.digits c.args.next c.args.fits (search rules) c.if-fits.true c.requires.fit
    c.requires.sound)
