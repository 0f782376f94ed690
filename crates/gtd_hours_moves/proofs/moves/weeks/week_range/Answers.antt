-- A range of weeks that no `/` follows is a piece without a step.
use Rattle.gtd_hours_moves.proofs.GoodItems.{week_range_good}
use Rattle.gtd_hours_moves.proofs.moves.weeks.week_range.Goals as goal

pub returns-in_default-clause-good : goal.returns-in_default-clause-good
returns-in_default-clause-good c = rw (c.give.ensures) (week_range_good c.args.first c.args.last c.args.next c.requires.sound)
