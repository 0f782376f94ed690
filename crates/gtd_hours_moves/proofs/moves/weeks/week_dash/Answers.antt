-- A second week in range makes a range, whether it is later than the first week or before it.
use Rattle.gtd_hours_moves.proofs.GoodItems.{week_pair_good}
use Rattle.std.proofs.Common.{rules}
use Rattle.gtd_hours_moves.proofs.moves.weeks.week_dash.Goals as goal

pub returns-in-Some-Number-clause-good : goal.returns-in-Some-Number-clause-good
returns-in-Some-Number-clause-good c =
    rw (c.week_pair.ensures, c.written.ensures) (week_pair_good c.args.n c.in-Some-Number.value c.in-Some-Number.digits
    c.args.next c.args.fits (search rules) c.if-fits.true c.requires.fit c.requires.sound)
