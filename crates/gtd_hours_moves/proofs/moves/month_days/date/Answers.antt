-- A date that no dash follows is a piece by itself, and the list may go on behind it.
use Rattle.gtd_hours_moves.proofs.GoodItems.{date_good}
use Rattle.gtd_hours_moves.proofs.moves.month_days.date.Goals as goal

pub returns-in_default-clause-good : goal.returns-in_default-clause-good
returns-in_default-clause-good c = rw (c.give.ensures) (date_good c.args.first c.args.next c.requires.sound)
