-- A number in range behind `Dec 24-` is the day that ends the range, or a year if the first date has one.
use Rattle.gtd_hours_moves.proofs.GoodItems.{date_dash_good}
use Rattle.std.proofs.Common.{rules}
use Rattle.gtd_hours_moves.proofs.moves.month_days.date_dash.Goals as goal

pub returns-in-Some-Number-clause-good : goal.returns-in-Some-Number-clause-good
returns-in-Some-Number-clause-good c =
    rw (c.year_or_day.ensures, c.written.ensures) (date_dash_good c.args.first c.in-Some-Number.value c.in-Some-Number.digits
    c.args.next c.args.fits (search rules) c.if-fits.true c.requires.fit c.requires.sound)
