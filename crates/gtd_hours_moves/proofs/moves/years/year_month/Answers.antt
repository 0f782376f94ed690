-- A day in range makes a date of `2024 Dec`; without one the year is a piece by itself, and the month comes behind it.
use Rattle.gtd_hours_moves.proofs.GoodItems.{year_date_good, year_month_good}
use Rattle.std.proofs.Common.{rules}
use Rattle.gtd_hours_moves.proofs.moves.years.year_month.Goals as goal

pub returns-then-fits-clause-good : goal.returns-then-fits-clause-good
returns-then-fits-clause-good c =
    rw (c.take.ensures, c.written.ensures) (year_date_good c.args.year c.args.month c.in-Some-Number.value
    c.in-Some-Number.digits c.args.next c.args.fits (search rules) c.if-fits.true c.requires.fit c.requires.sound)

pub returns-in_default-clause-good : goal.returns-in_default-clause-good
returns-in_default-clause-good c =
    rw (c.give.ensures, c.one_year.ensures) (year_month_good c.args.year c.args.month c.args.next (λ ts. search rules)
    c.requires.sound)
