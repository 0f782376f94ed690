-- A number in range behind `2024/` is the step of the years from 2024 to the last one of the calendar.
use Rattle.gtd_hours_moves.proofs.GoodItems.{slash_step_good}
use Rattle.std.proofs.Common.{rules}
use Rattle.gtd_hours_moves.proofs.moves.years.year_slash.Goals as goal

pub returns-in-Some-Number-clause-good : goal.returns-in-Some-Number-clause-good
returns-in-Some-Number-clause-good c =
    rw (c.years_on.ensures, c.written.ensures) (slash_step_good c.args.n c.in-Some-Number.value c.in-Some-Number.digits
    c.args.next c.args.fits (search rules) c.if-fits.true c.requires.fit c.requires.sound)
