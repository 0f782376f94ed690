-- A start with the month and day gives, each year, as many days from there on.
use Rattle.gtd_hours_leaves.specs.Leaves.{minutes_of, moved_day}
use Rattle.gtd_hours_selectors.proofs.YearlyLemmas.{days_hold, month_day_parts}
use Rattle.gtd_hours_selectors.proofs.yearly.each_year.Goals as goal

pub each_days-requires-clause-parts : goal.each_days-requires-clause-parts
each_days-requires-clause-parts c = month_day_parts c.args.days

pub returns-clause-days : goal.returns-clause-days
returns-clause-days c s =
    days_hold _ c.args.days (moved_day (minutes_of c.args.clock) s) (rw c.from.ensures at (c.each_days.ensures.days s))
