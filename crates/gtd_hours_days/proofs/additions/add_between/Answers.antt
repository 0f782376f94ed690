-- The ends, moved by the offset, stay in the calendar, and the days added are those from which the offset leads back.
use Rattle.std.proofs.Common.{rules, FitsSigned, w64, to_z-of_z}
use Rattle.gtd_hours_holidays.specs.Days.{IsIn}
use Rattle.gtd_hours_days.proofs.AdditionFacts.{added_moved, begun_moved, moved_in, of_calendar}
use Rattle.gtd_hours_days.proofs.additions.add_between.Goals as goal

pub plus-first-requires : goal.plus-first-requires
plus-first-requires c = rw (to_z-of_z c.ranges.from) (of_calendar c.args.years c.args.from c.requires.from_in)

pub plus-last-requires : goal.plus-last-requires
plus-last-requires c = rw (to_z-of_z c.ranges.to) (of_calendar c.args.years c.args.to c.requires.to_in)

pub add-requires-clause-first_in : goal.add-requires-clause-first_in
add-requires-clause-first_in c =
    let first : FitsSigned w64 c.plus-first.result = search rules in
    rw (to_z-of_z first) (moved_in c.args.years c.args.from c.plus-first.result c.args.offset c.requires.from_in
    (rw (to_z-of_z c.ranges.from) at c.plus-first.ensures))

pub add-requires-clause-last_in : goal.add-requires-clause-last_in
add-requires-clause-last_in c =
    let last : FitsSigned w64 c.plus-last.result = search rules in
    rw (to_z-of_z last) (moved_in c.args.years c.args.to c.plus-last.result c.args.offset c.requires.to_in
    (rw (to_z-of_z c.ranges.to) at c.plus-last.ensures))

pub add-requires-clause-begun : goal.add-requires-clause-begun
add-requires-clause-begun c =
    let first : FitsSigned w64 c.plus-first.result = search rules in
    rw (to_z-of_z first) (begun_moved c.args.years c.args.days.now.first c.args.from c.plus-first.result c.args.offset
    c.requires.begun c.requires.from_in (rw (to_z-of_z c.ranges.from) at c.plus-first.ensures))

pub returns-clause-added : goal.returns-clause-added
returns-clause-added c =
    let first : FitsSigned w64 c.plus-first.result = search rules in
    let last : FitsSigned w64 c.plus-last.result = search rules in
    added_moved (IsIn c.add.new.self) (IsIn c.args.days.now) c.plus-first.result c.plus-last.result c.args.from c.args.to
    c.args.offset.days (rw (to_z-of_z c.ranges.from) at c.plus-first.ensures)
    (rw (to_z-of_z c.ranges.to) at c.plus-last.ensures)
    (rw (to_z-of_z first, to_z-of_z last) at c.in_ok-add.ensures.added)
