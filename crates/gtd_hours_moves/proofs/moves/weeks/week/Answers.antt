-- A week that no dash follows is a piece by itself.
use Rattle.gtd_hours_moves.proofs.GoodItems.{week_good}
use Rattle.gtd_hours_moves.proofs.moves.weeks.week.Goals as goal

pub returns-in_default-clause-good : goal.returns-in_default-clause-good
returns-in_default-clause-good c = rw (c.give.ensures) (week_good c.args.n c.args.next c.requires.sound)
