-- A number, month, weekday or time in range behind a comma goes on with the list of the part in which the comma stands.
use Rattle.std.proofs.Common.{rules}
use Rattle.gtd_hours_moves.proofs.GoodRules.{listed_month_good, listed_number_good, listed_time_good, listed_weekday_good}
use Rattle.gtd_hours_moves.proofs.moves.rules.listed.Goals as goal

pub returns-in-Some-Number-clause-good : goal.returns-in-Some-Number-clause-good
returns-in-Some-Number-clause-good c =
    rw (c.listed_number.ensures, c.written.ensures) (listed_number_good c.args.s c.in-Some-Number.value c.in-Some-Number.digits
    c.args.next c.args.fits (search rules) c.if-fits.true c.requires.fit)

pub returns-in-Some-Month-clause-good : goal.returns-in-Some-Month-clause-good
returns-in-Some-Month-clause-good c =
    rw (c.take.ensures) (listed_month_good c.args.s c.in-Some-Month.month c.args.next c.args.fits (search rules)
    c.if-fits-2.true c.requires.fit c.requires.goes_on)

pub returns-in-Some-Weekday-clause-good : goal.returns-in-Some-Weekday-clause-good
returns-in-Some-Weekday-clause-good c =
    rw (c.take-in-Some-Weekday.ensures) (listed_weekday_good c.args.s c.in-Some-Weekday.weekday c.args.next c.args.fits
    (search rules) c.if-fits-3.true c.requires.fit c.requires.goes_on)

pub returns-in-Some-Time-clause-good : goal.returns-in-Some-Time-clause-good
returns-in-Some-Time-clause-good c =
    rw (c.take-in-Some-Time.ensures, c.clock.ensures) (listed_time_good c.args.s c.in-Some-Time.hour c.in-Some-Time.minute
    c.args.next c.args.fits (search rules) c.if-fits-4.true c.requires.fit c.requires.goes_on)
