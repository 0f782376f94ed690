-- A day in range makes a date of the month; a month that no dash and no number follows is a piece by itself.
use Rattle.gtd_hours_moves.proofs.GoodItems.{month_date_good, month_good}
use Rattle.std.proofs.Common.{rules}
use Rattle.gtd_hours_moves.proofs.moves.month_days.month.Goals as goal

pub returns-then-fits-clause-good : goal.returns-then-fits-clause-good
returns-then-fits-clause-good c =
    rw (c.take.ensures, c.written.ensures) (month_date_good c.args.m c.in-Some-Number.value c.in-Some-Number.digits
    c.args.next c.args.fits (search rules) c.if-fits.true c.requires.fit)

pub returns-in_default-clause-good : goal.returns-in_default-clause-good
returns-in_default-clause-good c = rw (c.give.ensures) (month_good c.args.m c.args.next c.requires.sound)
