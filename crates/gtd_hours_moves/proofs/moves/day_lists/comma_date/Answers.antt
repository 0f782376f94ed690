-- A number in range behind a date and a comma is a day or a year; all else moves as behind the comma of any such list.
use Rattle.gtd_hours_moves.proofs.GoodItems.{comma_date_good, comma_number_good}
use Rattle.gtd_hours_moves.proofs.GoodMoves.{comma_date_fits}
use Rattle.std.proofs.Common.{rules}
use Rattle.gtd_hours_moves.proofs.moves.day_lists.comma_date.Goals as goal

pub returns-then-fits-clause-good : goal.returns-then-fits-clause-good
returns-then-fits-clause-good c =
    rw (c.year_or_day.ensures, c.written.ensures) (comma_number_good c.args.year c.args.month c.in-Some-Number.value
    c.in-Some-Number.digits c.args.next c.args.fits (search rules) c.if-fits.true c.requires.fit c.requires.sound)

pub comma-requires-clause-fit : goal.comma-requires-clause-fit
comma-requires-clause-fit c = λ e. comma_date_fits c.args.year c.args.month c.args.next (c.requires.fit e) (search rules)

pub returns-in_default-clause-good : goal.returns-in_default-clause-good
returns-in_default-clause-good c =
    comma_date_good c.args.year c.args.month c.args.next c.comma.result c.comma.ensures.good
