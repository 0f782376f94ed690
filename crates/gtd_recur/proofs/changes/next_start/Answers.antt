-- If the second's own day has no later start, the next is the first start of the next day on which it begins; and if
-- there is no such day before the end, there is none.
use Rattle.std.proofs.Common.{◌≡◌, refl, arith, pos, ◌+ℤ◌, ◌*ℤ◌, ◌<ℤ◌, to_z, of_z, to_z-of_z, w64}
use Rattle.gtd_calendar.specs.facts.Signed.{signed_arith}
use Rattle.gtd_calendar.specs.facts.ClockLemmas.{second-only}
use Rattle.gtd_core.specs.Seconds.{day_of_second}
use Rattle.gtd_recur.proofs.ChangeLemmas.{next-later, none-later}
use Rattle.gtd_recur.proofs.CoverLemmas.{horizon-day}
use Rattle.gtd_recur.proofs.SmallLemmas.{small-day}
use Rattle.gtd_recur.proofs.changes.next_start.Goals as goal

pub returns-then-day-to_day-clause-next : goal.returns-then-day-to_day-clause-next
returns-then-day-to_day-clause-next c =
    let near = horizon-day c.args.second.0 c.requires.second_in in
    let is = c.day.ensures.value in
    let next : to_z w64 (of_z w64 (to_z w64 (of_z w64 c.day.result) +ℤ pos 1)) ≡ day_of_second c.args.second.0 +ℤ pos 1 =
    omega (arith, signed_arith, near.0, near.1, is) in
    let to = to_z-of_z c.ranges.to_day in
    let first = rw (next, to) at c.next_day-day.ensures.first in
    let f0 = first.low in let f1 = first.high in let last = c.requires.to_day_in in
    let day = small-day c.next_day-day.result (omega (arith, signed_arith, f0, near.0)) (omega (arith, signed_arith, f1, last)) in
    let lt : c.next_day-day.result <ℤ c.args.to_day = omega (arith, signed_arith, c.if-day-to_day.true, day, to) in
    let begin = c.day_clocks-clock.ensures.clocks.begin in
    let low = begin.1 in
    let plain : to_z w64 (of_z w64 (to_z w64 (of_z w64 (pos 86400 *ℤ to_z w64 (of_z w64 c.next_day-day.result)))
    +ℤ to_z w64 (of_z w64 c.from.result))) ≡ pos 86400 *ℤ c.next_day-day.result +ℤ pos c.day_clocks-clock.result.first =
    omega (arith, signed_arith, day, low) in
    rw plain (next-later c.args.start.now c.args.second.0 c.args.to_day c.next_day-day.result c.day_clocks-clock.result.first
    c.in_default.ensures.next first lt begin)

pub returns-then-day-to_day-clause-before : goal.returns-then-day-to_day-clause-before
returns-then-day-to_day-clause-before c =
    let near = horizon-day c.args.second.0 c.requires.second_in in
    let is = c.day.ensures.value in
    let next : to_z w64 (of_z w64 (to_z w64 (of_z w64 c.day.result) +ℤ pos 1)) ≡ day_of_second c.args.second.0 +ℤ pos 1 =
    omega (arith, signed_arith, near.0, near.1, is) in
    let to = to_z-of_z c.ranges.to_day in
    let first = rw (next, to) at c.next_day-day.ensures.first in
    let f0 = first.low in let f1 = first.high in let last = c.requires.to_day_in in
    let day = small-day c.next_day-day.result (omega (arith, signed_arith, f0, near.0)) (omega (arith, signed_arith, f1, last)) in
    let lt : c.next_day-day.result <ℤ c.args.to_day = omega (arith, signed_arith, c.if-day-to_day.true, day, to) in
    let begin = c.day_clocks-clock.ensures.clocks.begin in
    let low = begin.1 in
    let plain : to_z w64 (of_z w64 (to_z w64 (of_z w64 (pos 86400 *ℤ to_z w64 (of_z w64 c.next_day-day.result)))
    +ℤ to_z w64 (of_z w64 c.from.result))) ≡ pos 86400 *ℤ c.next_day-day.result +ℤ pos c.day_clocks-clock.result.first =
    omega (arith, signed_arith, day, low) in
    rw (plain, (second-only _ c.next_day-day.result c.day_clocks-clock.result.first low refl).0) lt

pub returns-clause-next : goal.returns-clause-next
returns-clause-next c =
    let near = horizon-day c.args.second.0 c.requires.second_in in
    let is = c.day.ensures.value in
    let next : to_z w64 (of_z w64 (to_z w64 (of_z w64 c.day.result) +ℤ pos 1)) ≡ day_of_second c.args.second.0 +ℤ pos 1 =
    omega (arith, signed_arith, near.0, near.1, is) in
    let to = to_z-of_z c.ranges.to_day in
    let first = rw (next, to) at c.next_day-day.ensures.first in
    let f0 = first.low in let f1 = first.high in let last = c.requires.to_day_in in
    let day = small-day c.next_day-day.result (omega (arith, signed_arith, f0, near.0)) (omega (arith, signed_arith, f1, last)) in
    let same : c.next_day-day.result ≡ c.args.to_day = omega (arith, signed_arith, c.if-day-to_day.false, day, to, f1) in
    none-later c.args.start.now c.args.second.0 c.args.to_day c.in_default.ensures.next (rw same at first)
