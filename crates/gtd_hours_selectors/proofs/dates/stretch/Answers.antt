-- So many days from a day of a month on stay in that month, because it has them in every year.
use Rattle.gtd_hours_leaves.specs.Leaves.{minutes_of, moved_day}
use Rattle.gtd_hours_selectors.proofs.DateLemmas.{stretch-holds}
use Rattle.gtd_hours_selectors.proofs.dates.stretch.Goals as goal

pub returns-clause-days : goal.returns-clause-days
returns-clause-days c s =
    stretch-holds _ c.args.month c.args.day c.args.days (moved_day (minutes_of c.args.clock) s) c.requires.date.1.0
    c.requires.fits
    (c.each_days.ensures.days s)
