-- So many months from the first day of a month on are the months of the range, also over the end of a year.
use Rattle.gtd_calendar.specs.ComputedDates.{month_of}
use Rattle.gtd_hours_leaves.specs.Leaves.{minutes_of, moved_day}
use Rattle.gtd_hours_selectors.proofs.DateLemmas.{round-months}
use Rattle.gtd_hours_leaves.specs.facts.MonthFacts.{month-in}
use Rattle.gtd_hours_selectors.proofs.MonthLemmas.{month-run}
use Rattle.gtd_hours_selectors.proofs.dates.month_run.Goals as goal

pub returns-clause-days : goal.returns-clause-days
returns-clause-days c s =
    let m = moved_day (minutes_of c.args.clock) s in
    let range = c.months_within.ensures.range in
    round-months _ c.args.first c.args.last c.months_within.result (month_of m)
    c.requires.first_in c.requires.last_in (month-in m)
    c.months_within.ensures.value range
    (month-run _ c.args.clock c.args.first c.months_within.result (rw c.from-months.ensures at c.leaf.ensures) c.requires.first_in
    range.1 s)
