-- One stretch from the first date, as long as the range, holds on exactly the days from the first date to the last.
use Rattle.std.proofs.Common.{◌≡◌, rules, to_z, of_z, w64, to_z-of_z, FitsSigned}
use Rattle.gtd_hours_leaves.specs.Leaves.{minutes_of, moved_day}
use Rattle.gtd_hours_selectors.proofs.DateLemmas.{dated-holds}
use Rattle.gtd_hours_selectors.proofs.dated.dated_days.Goals as goal

pub returns-clause-days : goal.returns-clause-days
returns-clause-days c s =
    let first = c.args.dates.first in
    let fits : FitsSigned w64 c.day_number-first.result = search rules in
    let fits_last : FitsSigned w64 c.day_number-last.result = search rules in
    let same : to_z w64 (of_z w64 c.day_number-first.result) ≡ c.day_number-first.result = to_z-of_z fits in
    let same_last : to_z w64 (of_z w64 c.day_number-last.result) ≡ c.day_number-last.result = to_z-of_z fits_last in
    rw (c.day_number-first.ensures.value, c.day_number-last.ensures.value) at
    (dated-holds _ first.year first.month first.day c.count-days.result c.day_number-first.result c.day_number-last.result
    (moved_day (minutes_of c.args.clock) s) first.is_date.1 c.day_number-first.ensures.value
    (rw (same, same_last) at c.count-days.ensures.value) (c.each_days.ensures.days s))
