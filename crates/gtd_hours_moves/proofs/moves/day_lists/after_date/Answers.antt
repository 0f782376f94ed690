-- All but a comma makes the move that it makes behind any list of months, which is right behind a date too.
use Rattle.gtd_hours_moves.proofs.GoodItems.{after_date_good}
use Rattle.gtd_hours_moves.proofs.GoodMoves.{after_date_fits}
use Rattle.gtd_hours_moves.proofs.moves.day_lists.after_date.Goals as goal

pub after-requires-clause-fit : goal.after-requires-clause-fit
after-requires-clause-fit c = λ e. after_date_fits c.args.year c.args.month c.args.next (c.requires.fit e)

pub returns-in_default-clause-good : goal.returns-in_default-clause-good
returns-in_default-clause-good c =
    after_date_good c.args.year c.args.month c.args.next c.after.result c.after.ensures.good
