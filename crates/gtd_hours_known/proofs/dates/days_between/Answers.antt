-- Two days in order and near each other are the ends of a range of dates, which holds on the days between them.
use Rattle.std.proofs.Common.{◌≡◌, ◌∙◌, to_z-of_z}
use Rattle.gtd_hours_known.specs.HolidayDays.{date_day}
use Rattle.gtd_hours_known.proofs.DayFacts.{dated_range}
use Rattle.gtd_hours_known.proofs.dates.days_between.Goals as goal

pub unreachable-requires : goal.unreachable-requires
unreachable-requires c =
    let from = c.date_of.result in
    let to = c.date_of-2.result in
    let first : date_day from ≡ c.args.first = c.date_of.ensures.date ∙ to_z-of_z c.ranges.first in
    let last : date_day to ≡ c.args.last = c.date_of-2.ensures.date ∙ to_z-of_z c.ranges.last in
    let yes = c.in-None.ensures.accepted.1
    (dated_range _ _ c.args.first c.args.last first last c.requires.order c.requires.short) in
    cc
