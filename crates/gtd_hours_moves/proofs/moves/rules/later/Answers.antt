-- A part of a rule may begin behind any part that comes before it in the order of parts, and only there.
use Rattle.std.proofs.Common.{rules}
use Rattle.gtd_hours_moves.proofs.GoodRules.{later_closed, later_month, later_open, later_time, later_week, later_weekday}
use Rattle.gtd_hours_moves.proofs.moves.rules.later.Goals as goal

pub returns-in-Some-Month-clause-good : goal.returns-in-Some-Month-clause-good
returns-in-Some-Month-clause-good c =
    rw (c.complete.ensures) (later_month c.args.s c.in-Some-Month.month c.args.next c.args.fits (search rules) c.if-fits.true
    c.requires.fit (search rules))

pub returns-in-Some-Week-clause-good : goal.returns-in-Some-Week-clause-good
returns-in-Some-Week-clause-good c =
    rw (c.complete-in-Some-Week.ensures) (later_week c.args.s c.args.next (search rules) (search rules))

pub returns-in-Some-Weekday-clause-good : goal.returns-in-Some-Weekday-clause-good
returns-in-Some-Weekday-clause-good c =
    rw (c.complete-in-Some-Weekday.ensures) (later_weekday c.args.s c.in-Some-Weekday.weekday c.args.next c.args.fits
    (search rules) c.if-fits-2.true c.requires.fit (search rules))

pub returns-in-Some-Time-clause-good : goal.returns-in-Some-Time-clause-good
returns-in-Some-Time-clause-good c =
    rw (c.take.ensures, c.clock.ensures) (later_time c.args.s c.in-Some-Time.hour c.in-Some-Time.minute c.args.next c.args.fits
    (search rules) c.if-fits-3.true c.requires.fit (search rules))

pub returns-in-Some-Open-clause-good : goal.returns-in-Some-Open-clause-good
returns-in-Some-Open-clause-good c =
    rw (c.take-in-Some-Open.ensures) (later_open c.args.s c.args.next (search rules) (search rules))

pub returns-in-Some-Closed-clause-good : goal.returns-in-Some-Closed-clause-good
returns-in-Some-Closed-clause-good c =
    rw (c.complete-in-Some-Closed.ensures) (later_closed c.args.s c.args.next (search rules) (search rules))
