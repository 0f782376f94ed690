-- A year behind the dash stands for months of years; a month is one of the year alone.
use Rattle.gtd_hours_moves.proofs.GoodItems.{month_to_year_good, year_and_months_good}
use Rattle.std.proofs.Common.{rules}
use Rattle.gtd_hours_moves.proofs.moves.years.year_month_dash.Goals as goal

pub returns-in-Some-Number-clause-good : goal.returns-in-Some-Number-clause-good
returns-in-Some-Number-clause-good c =
    rw (c.take.ensures, c.written.ensures) (month_to_year_good c.args.year c.args.month c.in-Some-Number.value
    c.in-Some-Number.digits c.args.next c.args.fits (search rules) c.if-fits.true c.requires.fit c.requires.sound)

pub returns-in-Some-Month-clause-good : goal.returns-in-Some-Month-clause-good
returns-in-Some-Month-clause-good c =
    rw (c.give.ensures, c.one_year.ensures) (year_and_months_good c.args.year c.args.month c.in-Some-Month.field-0-0 c.args.next
    (search rules) c.requires.sound)
