-- A start with the bits of a range of weekdays holds on exactly the days whose weekday is in the range.
use Rattle.gtd_hours_leaves.specs.Leaves.{minutes_of, moved_day}
use Rattle.gtd_hours_selectors.proofs.DayLemmas.{weekdays-hold}
use Rattle.gtd_hours_selectors.proofs.days.weekday_days.Goals as goal

pub returns-clause-days : goal.returns-clause-days
returns-clause-days c s =
    let bits = c.weekday_bits.ensures in
    let held = weekdays-hold c.weekday_bits.result c.args.days.first c.args.days.last bits.some bits.bits
    (moved_day (minutes_of c.args.clock) s) in
    let same = c.each_day.ensures.days s in
    ((λ h. held.0 (same.0 h)), (λ h. same.1 (held.1 h)))
