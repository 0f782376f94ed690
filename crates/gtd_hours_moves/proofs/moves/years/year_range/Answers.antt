-- A range of years that no `/` follows is a piece without a step.
use Rattle.gtd_hours_moves.proofs.GoodItems.{year_range_good}
use Rattle.gtd_hours_moves.proofs.moves.years.year_range.Goals as goal

pub returns-in_default-clause-good : goal.returns-in_default-clause-good
returns-in_default-clause-good c =
    rw (c.give.ensures) (year_range_good c.args.first c.args.last c.args.next c.requires.sound)
