-- The week lies ahead, and has no day before the given one; or the day asked for is its Sunday or the one just before.
use Rattle.std.proofs.Common.{◌≡◌, ◌≤ℤ◌, arith, to_z-of_z, to_z, of_z, w64, rules}
use Rattle.gtd_calendar.specs.facts.Signed.{signed_arith}
use Rattle.gtd_recur.proofs.MondayLemmas.{week-ahead, last-of-week}
use Rattle.gtd_recur.proofs.SmallLemmas.{small-day}
use Rattle.gtd_recur.proofs.find.last_of_week.Goals as goal

pub overflow_add-monday : goal.overflow_add-monday
overflow_add-monday c = let b = c.in-Some.ensures.bound in omega (arith, signed_arith, b.0, b.1)

pub returns-then-day-monday : goal.returns-then-day-monday
returns-then-day-monday c =
    let h = c.in-Some.ensures in
    let monday : to_z w64 (of_z w64 c.in-Some.monday) ≡ c.in-Some.monday = omega (arith, signed_arith, h.bound.0, h.bound.1) in
    let le : c.args.day ≤ℤ c.in-Some.monday = omega (arith, signed_arith, c.if-day-monday.true, to_z-of_z c.ranges.day, monday) in
    record { last = week-ahead _ _ _ _ c.ranges.year h.monday le }

pub returns : goal.returns
returns c =
    let h = c.in-Some.ensures in
    let day = small-day c.args.day (omega (arith, signed_arith, c.requires.low)) (omega (arith, signed_arith, c.requires.high)) in
    record { last = last-of-week _ _ _ c.earlier.result _ c.ranges.year (search rules) day h.monday h.bound c.earlier.ensures }
