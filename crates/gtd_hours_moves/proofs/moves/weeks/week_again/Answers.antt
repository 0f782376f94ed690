-- The second piece of `46-12` is the weeks from 1 to 12, and is given whatever token comes next.
use Rattle.gtd_hours_moves.proofs.GoodItems.{week_again_good}
use Rattle.gtd_hours_moves.proofs.moves.weeks.week_again.Goals as goal

pub returns-clause-good : goal.returns-clause-good
returns-clause-good c =
    λ next. rw (c.give.ensures, c.written.ensures) (week_again_good c.args.first c.args.last next c.requires.sound)
