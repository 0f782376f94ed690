-- The days of the years are those from the first day of the first year to the last day of the last one.
use Rattle.gtd_hours_leaves.specs.Leaves.{minutes_of, moved_day}
use Rattle.gtd_hours_selectors.proofs.YearlyLemmas.{years_hold}
use Rattle.gtd_hours_selectors.proofs.yearly.all_years.Goals as goal

pub returns-clause-days : goal.returns-clause-days
returns-clause-days c s =
    let run = c.year_run.ensures.days s in
    let same = years_hold c.args.days.first c.args.days.last (moved_day (minutes_of c.args.clock) s) in
    ((λ h. same.0 (run.0 h)), (λ h. run.1 (same.1 h)))
