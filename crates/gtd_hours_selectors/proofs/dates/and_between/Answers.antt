-- The months strictly between two others: none if the second follows the first, else one stretch of whole months.
use Rattle.std.proofs.Common.{sym, ◌∙◌}
use Rattle.gtd_calendar.specs.ComputedDates.{month_of}
use Rattle.gtd_hours_leaves.specs.Leaves.{minutes_of, moved_day}
use Rattle.gtd_hours_selectors.proofs.DateLemmas.{between-months, none-between, or_none, or_same}
use Rattle.gtd_hours_leaves.specs.facts.MonthFacts.{month-in}
use Rattle.gtd_hours_selectors.proofs.dates.and_between.Goals as goal

pub returns-then-next-last-clause-days : goal.returns-then-next-last-clause-days
returns-then-next-last-clause-days c s =
    let m = moved_day (minutes_of c.args.clock) s in
    or_none _ _ (none-between c.args.first c.args.last (month_of m) (sym c.if-next-last.true ∙ c.month_after-next.ensures.value)
    c.requires.first_in (month-in m))

pub returns-clause-days : goal.returns-clause-days
returns-clause-days c s =
    let m = moved_day (minutes_of c.args.clock) s in
    or_same _ _ _ _
    (between-months _ c.args.first c.args.last c.month_after-next.result c.month_before.result (month_of m)
    c.month_after-next.ensures.value c.month_before.ensures.value c.if-next-last.false c.month_after-next.ensures.month
    c.requires.first_in c.requires.last_in (month-in m) (c.month_run-days.ensures.days s)) (c.in_ok-expr.ensures.seconds s)
