-- The first piece of `46-12` is the weeks from 46 to 53, and is given whatever token comes next.
use Rattle.gtd_hours_moves.proofs.GoodItems.{week_back_good}
use Rattle.gtd_hours_moves.proofs.moves.weeks.week_back.Goals as goal

pub returns-in_default-clause-good : goal.returns-in_default-clause-good
returns-in_default-clause-good c =
    rw (c.give.ensures, c.written.ensures) (week_back_good c.args.first c.args.last c.args.next c.requires.sound)
