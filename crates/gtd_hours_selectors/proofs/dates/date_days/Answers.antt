-- The cases of a range of dates: days of one month; or the rest of the first month, the months between, and the
-- beginning of the last month, which together are the whole range.
use Rattle.std.proofs.Common.{◌≡◌, ◌<◌, arith}
use Rattle.gtd_calendar.specs.ComputedDates.{month_of, day_of_month}
use Rattle.gtd_hours_leaves.specs.Leaves.{minutes_of, moved_day}
use Rattle.gtd_hours_selectors.proofs.DateLemmas.{day-in, date-in, one-month, same-after, several-months}
use Rattle.gtd_hours_selectors.proofs.dates.date_days.Goals as goal
use Rattle.gtd_hours_selectors.proofs.dates.date_days.Goals.{else-first-last-via-then-first-last+else-first-last-2}
use Rattle.gtd_hours_selectors.proofs.dates.date_days.Goals.{else-first-last-via-else-first-last}

pub returns-then-first-last-2-clause-days : goal.returns-then-first-last-2-clause-days
returns-then-first-last-2-clause-days c s =
    let m = moved_day (minutes_of c.args.clock) s in
    let dates = c.args.dates in
    let last = day-in dates.last.month dates.last.day dates.last.in_range in
    let d = date-in m in
    rw (← c.if-first-last.true) (one-month _ dates.first.month dates.first.day dates.last.day (month_of m) (day_of_month m)
    c.if-first-last-2.true last.3 d.0 d.1 (same-after _ _ _ (c.in_ok-days.ensures.days s) (c.or_nothing.ensures.seconds s)))

pub returns-clause-days : goal.returns-clause-days
returns-clause-days c s =
    let m = moved_day (minutes_of c.args.clock) s in
    let first = c.args.dates.first in
    let last = c.args.dates.last in
    let f = day-in first.month first.day first.in_range in
    let l = day-in last.month last.day last.in_range in
    let apart : first.month ≡ last.month → last.day < first.day = λ same. elim c.else-first-last.branch [
      | else-first-last-via-then-first-last+else-first-last-2 w ↦ omega (arith, w.if-first-last-2.false)
      | else-first-last-via-else-first-last w ↦ absurd (w.if-first-last.false same)
    ] in
    several-months _ _ _ first.month first.day last.month last.day (month_of m) (day_of_month m) apart (f.2, f.3) (l.2, l.3)
    (date-in m)
    (c.in_ok-rest.ensures.days s) (c.in_ok-months.ensures.days s)
    (same-after _ _ _ (c.in_ok-days-2.ensures.days s) (c.or_nothing-2.ensures.seconds s))
