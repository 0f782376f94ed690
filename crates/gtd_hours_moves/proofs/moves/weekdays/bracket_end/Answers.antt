-- Behind a place in brackets, a comma leads to another place, and behind `]` an offset may follow.
use Rattle.gtd_hours_moves.proofs.GoodItems.{bracket_close_good, bracket_comma_good}
use Rattle.std.proofs.Common.{rules}
use Rattle.gtd_hours_moves.proofs.moves.weekdays.bracket_end.Goals as goal

pub returns-in-Some-Comma-clause-good : goal.returns-in-Some-Comma-clause-good
returns-in-Some-Comma-clause-good c =
    rw (c.take.ensures)
    (bracket_comma_good c.args.weekday c.args.reach c.args.next (search rules) c.requires.sound)

pub returns-in-Some-CloseBracket-clause-good : goal.returns-in-Some-CloseBracket-clause-good
returns-in-Some-CloseBracket-clause-good c =
    rw (c.take-in-Some-CloseBracket.ensures) (bracket_close_good c.args.weekday c.args.reach c.args.next (search rules))
