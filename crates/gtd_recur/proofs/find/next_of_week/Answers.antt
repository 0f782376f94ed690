-- The week is over, and has no day after the given one; or its next day is its Monday or the day after the given one.
use Rattle.std.proofs.Common.{◌≤ℤ◌, arith, pos, ◌+ℤ◌, to_z-of_z, rules}
use Rattle.gtd_calendar.specs.facts.Signed.{signed_arith}
use Rattle.gtd_recur.proofs.MondayLemmas.{week-over, next-of-week}
use Rattle.gtd_recur.proofs.SmallLemmas.{small-day}
use Rattle.gtd_recur.proofs.find.next_of_week.Goals as goal

pub overflow_add-monday : goal.overflow_add-monday
overflow_add-monday c = let b = c.in-Some.ensures.bound in omega (arith, signed_arith, b.0, b.1)

pub returns-then-day-monday : goal.returns-then-day-monday
returns-then-day-monday c =
    let h = c.in-Some.ensures in
    let le : (c.in-Some.monday +ℤ pos 6) ≤ℤ c.args.day =
    omega (arith, signed_arith, c.if-day-monday.true, to_z-of_z c.ranges.day, h.bound.0, h.bound.1) in
    record { next = week-over _ _ _ _ c.ranges.year h.monday le }

pub returns : goal.returns
returns c =
    let day = small-day c.args.day (omega (arith, signed_arith, c.requires.low)) (omega (arith, signed_arith, c.requires.high)) in
    let h = c.in-Some.ensures in
    record { next = next-of-week _ _ _ c.later.result _ c.ranges.year (search rules) day h.monday h.bound c.later.ensures }
