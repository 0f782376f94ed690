-- Of the days between two others, those of the years lie between the later beginning and the earlier end, or are none.
use Rattle.std.proofs.Common.{rules, ◌≤ℤ◌, FitsSigned, w64, to_z-of_z}
use Rattle.std.proofs.lemmas.Int.{by_lt_z}
use Rattle.gtd_hours_holidays.specs.Days.{IsIn}
use Rattle.gtd_hours_days.proofs.AdditionFacts.{from_in, part_added, part_none, to_in}
use Rattle.gtd_hours_days.proofs.additions.add_part.Goals as goal

pub returns-then-is_empty-clause-added : goal.returns-then-is_empty-clause-added
returns-then-is_empty-clause-added c =
    let first : FitsSigned w64 c.first_day.result = search rules in
    let last : FitsSigned w64 c.last_day.result = search rules in
    let from : FitsSigned w64 c.later-from.result = search rules in
    let to : FitsSigned w64 c.earlier-to.result = search rules in
    part_none c.args.years c.args.first c.args.last c.first_day.result c.last_day.result c.later-from.result c.earlier-to.result
    c.first_day.ensures.day c.last_day.ensures.day
    (rw (to_z-of_z c.ranges.first, to_z-of_z first) at c.later-from.ensures)
    (rw (to_z-of_z c.ranges.last, to_z-of_z last) at c.earlier-to.ensures) (IsIn c.args.days.now) c.args.offset.days
    (rw (to_z-of_z from, to_z-of_z to) at (c.is_empty.ensures.0 c.if-is_empty.true))

pub add_between-requires-clause-from_in : goal.add_between-requires-clause-from_in
add_between-requires-clause-from_in c =
    let first : FitsSigned w64 c.first_day.result = search rules in
    let last : FitsSigned w64 c.last_day.result = search rules in
    let from : FitsSigned w64 c.later-from.result = search rules in
    let to : FitsSigned w64 c.earlier-to.result = search rules in
    let empty = rw (to_z-of_z from, to_z-of_z to) at c.is_empty.ensures in
    let order : c.later-from.result ≤ℤ c.earlier-to.result =
    by_lt_z c.earlier-to.result c.later-from.result (λ lt. let yes = empty.1 lt in cc) (λ ge. ge) in
    rw (to_z-of_z from) (from_in c.args.years c.args.first c.args.last c.first_day.result c.last_day.result c.later-from.result
    c.earlier-to.result c.first_day.ensures.day c.last_day.ensures.day
    (rw (to_z-of_z c.ranges.first, to_z-of_z first) at c.later-from.ensures)
    (rw (to_z-of_z c.ranges.last, to_z-of_z last) at c.earlier-to.ensures) order)

pub add_between-requires-clause-to_in : goal.add_between-requires-clause-to_in
add_between-requires-clause-to_in c =
    let first : FitsSigned w64 c.first_day.result = search rules in
    let last : FitsSigned w64 c.last_day.result = search rules in
    let from : FitsSigned w64 c.later-from.result = search rules in
    let to : FitsSigned w64 c.earlier-to.result = search rules in
    let empty = rw (to_z-of_z from, to_z-of_z to) at c.is_empty.ensures in
    let order : c.later-from.result ≤ℤ c.earlier-to.result =
    by_lt_z c.earlier-to.result c.later-from.result (λ lt. let yes = empty.1 lt in cc) (λ ge. ge) in
    rw (to_z-of_z to) (to_in c.args.years c.args.first c.args.last c.first_day.result c.last_day.result c.later-from.result
    c.earlier-to.result c.first_day.ensures.day c.last_day.ensures.day
    (rw (to_z-of_z c.ranges.first, to_z-of_z first) at c.later-from.ensures)
    (rw (to_z-of_z c.ranges.last, to_z-of_z last) at c.earlier-to.ensures) order)

pub returns-clause-added : goal.returns-clause-added
returns-clause-added c =
    let first : FitsSigned w64 c.first_day.result = search rules in
    let last : FitsSigned w64 c.last_day.result = search rules in
    let from : FitsSigned w64 c.later-from.result = search rules in
    let to : FitsSigned w64 c.earlier-to.result = search rules in
    part_added c.args.years c.args.first c.args.last c.first_day.result c.last_day.result c.later-from.result c.earlier-to.result
    c.first_day.ensures.day c.last_day.ensures.day
    (rw (to_z-of_z c.ranges.first, to_z-of_z first) at c.later-from.ensures)
    (rw (to_z-of_z c.ranges.last, to_z-of_z last) at c.earlier-to.ensures) (IsIn c.add_between.new.days) (IsIn c.args.days.now)
    c.args.offset.days (rw (to_z-of_z from, to_z-of_z to) at c.in_ok-add_between.ensures.added)
