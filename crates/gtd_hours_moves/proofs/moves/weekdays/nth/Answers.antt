-- A place in brackets that no dash follows is a piece by itself.
use Rattle.gtd_hours_moves.proofs.GoodItems.{nth_good}
use Rattle.gtd_hours_moves.proofs.moves.weekdays.nth.Goals as goal

pub returns-in_default-clause-good : goal.returns-in_default-clause-good
returns-in_default-clause-good c =
    rw (c.give.ensures) (rw (c.front_reach.ensures)
    (nth_good c.args.weekday c.args.number c.args.reach c.args.next c.requires.sound))
