-- A bracket may open behind a weekday; a weekday that neither a bracket nor a dash follows is a piece by itself.
use Rattle.gtd_hours_moves.proofs.GoodItems.{weekday_bracket_good, weekday_good}
use Rattle.std.proofs.Common.{rules}
use Rattle.gtd_hours_moves.proofs.moves.weekdays.weekday.Goals as goal

pub returns-in-Some-OpenBracket-clause-good : goal.returns-in-Some-OpenBracket-clause-good
returns-in-Some-OpenBracket-clause-good c =
    rw (c.take-in-Some-OpenBracket.ensures) (weekday_bracket_good c.args.day c.args.next (search rules) c.requires.sound)

pub returns-in_default-clause-good : goal.returns-in_default-clause-good
returns-in_default-clause-good c = rw (c.give.ensures) (weekday_good c.args.day c.args.next c.requires.sound)
