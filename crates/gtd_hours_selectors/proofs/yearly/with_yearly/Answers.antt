-- Days of the same years are met with them once, behind the last of them.
use Rattle.std.proofs.Common.{◌∙◌, sym}
use Rattle.gtd_calendar.specs.ComputedFields.{day_fields}
use Rattle.gtd_hours_leaves.specs.Leaves.{minutes_of, moved_day}
use Rattle.gtd_hours_selectors.proofs.YearlyLemmas.{next_years, put_each, went_on, yearly_is}
use Rattle.gtd_hours_selectors.proofs.yearly.with_yearly.Goals as goal

pub returns-then-goes_on-clause-days : goal.returns-then-goes_on-clause-days
returns-then-goes_on-clause-days c s =
    let n = moved_day (minutes_of c.args.clock) s in
    let next = next_years c.args.days c.args.more.now (sym c.goes_on.ensures ∙ c.if-goes_on.true) in
    went_on _ _ _ _ _ _ _ _ (put_each _ _ _ _ (c.in_ok-each.ensures.seconds s) (c.each_year.ensures.days s)) (next.1 n)
    (yearly_is c.args.days n (day_fields n))
