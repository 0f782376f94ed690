-- The runs of days that month and year do not exclude are searched in order: what lies between two runs has no start,
-- so the first day found is the first of all.
use Rattle.std.proofs.Common.{◌≤ℤ◌, ◌<ℤ◌, arith, to_z-of_z}
use Rattle.gtd_calendar.specs.facts.Signed.{signed_arith}
use Rattle.gtd_recur.proofs.ChangeLemmas.{less-ahead, searched-end, searched-first, searched-on, searched-to}
use Rattle.gtd_recur.proofs.SmallLemmas.{small-day}
use Rattle.gtd_recur.proofs.changes.next_day.Goals as goal

pub loop-days-init : goal.loop-days-init
loop-days-init c =
    let day = to_z-of_z c.ranges.day in
    let end = to_z-of_z c.ranges.end in
    rw (day, end) (searched-first _ _ _ _ _ (rw (day, end) at c.next_days-days.ensures.run))

pub returns-then-found-days : goal.returns-then-found-days
returns-then-found-days c =
    let day = to_z-of_z c.ranges.day in
    let end = to_z-of_z c.ranges.end in
    let i = rw (day, end) at c.loop-days.invariant in
    let a = i.low in let b = i.order in let d = i.within in
    let low = c.requires.day_in in let high = c.requires.end_in in
    let from = small-day c.loop-days.days.from (omega (arith, signed_arith, a, low)) (omega (arith, signed_arith, b, d, high)) in
    let until = small-day c.loop-days.days.until (omega (arith, signed_arith, a, b, low))
    (omega (arith, signed_arith, d, high)) in
    let h = rw (from.is, until.is) at c.next_begun-found.ensures.first in
    let h0 = h.low in let h1 = h.high in
    let found = small-day c.next_begun-found.result (omega (arith, signed_arith, h0, a, low))
    (omega (arith, signed_arith, h1, d, high)) in
    let lt : c.next_begun-found.result <ℤ c.loop-days.days.until =
    omega (arith, signed_arith, c.if-found-days.true, found, until) in
    rw (found.is) (record { first = searched-to _ _ _ _ _ _ i h lt })

pub loop-days-smaller : goal.loop-days-smaller
loop-days-smaller c =
    let day = to_z-of_z c.ranges.day in
    let end = to_z-of_z c.ranges.end in
    let i = rw (day, end) at c.loop-days.invariant in
    let a = i.low in let b = i.order in let d = i.within in
    let low = c.requires.day_in in let high = c.requires.end_in in
    let from = small-day c.loop-days.days.from (omega (arith, signed_arith, a, low)) (omega (arith, signed_arith, b, d, high)) in
    let until = small-day c.loop-days.days.until (omega (arith, signed_arith, a, b, low))
    (omega (arith, signed_arith, d, high)) in
    let more : c.loop-days.days.from <ℤ c.args.end = omega (arith, signed_arith, c.loop-days-test.true, from, end) in
    let some = i.some more in
    let run = rw (until.is, end) at c.next_days-days-in-loop-days.ensures.run in
    let r0 = run.low in let r1 = run.order in let r2 = run.within in
    rw (end) (less-ahead c.args.end c.loop-days.days.from c.next_days-days-in-loop-days.result.from
    (omega (arith, signed_arith, some, r0)) (omega (arith, signed_arith, r1, r2)))

pub loop-days-preserved : goal.loop-days-preserved
loop-days-preserved c =
    let day = to_z-of_z c.ranges.day in
    let end = to_z-of_z c.ranges.end in
    let i = rw (day, end) at c.loop-days.invariant in
    let a = i.low in let b = i.order in let d = i.within in
    let low = c.requires.day_in in let high = c.requires.end_in in
    let from = small-day c.loop-days.days.from (omega (arith, signed_arith, a, low)) (omega (arith, signed_arith, b, d, high)) in
    let until = small-day c.loop-days.days.until (omega (arith, signed_arith, a, b, low))
    (omega (arith, signed_arith, d, high)) in
    let h = rw (from.is, until.is) at c.next_begun-found.ensures.first in
    let h0 = h.low in let h1 = h.high in
    let found = small-day c.next_begun-found.result (omega (arith, signed_arith, h0, a, low))
    (omega (arith, signed_arith, h1, d, high)) in
    let past : c.loop-days.days.until ≤ℤ c.next_begun-found.result =
    omega (arith, signed_arith, c.if-found-days.false, found, until) in
    rw (day, end) (searched-on _ _ _ _ _ _ _ _ i h past (rw (until.is, end) at c.next_days-days-in-loop-days.ensures.run))

pub returns : goal.returns
returns c =
    let day = to_z-of_z c.ranges.day in
    let end = to_z-of_z c.ranges.end in
    let i = rw (day, end) at c.loop-days.invariant in
    let a = i.low in let b = i.order in let d = i.within in
    let low = c.requires.day_in in let high = c.requires.end_in in
    let from = small-day c.loop-days.days.from (omega (arith, signed_arith, a, low)) (omega (arith, signed_arith, b, d, high)) in
    let until = small-day c.loop-days.days.until (omega (arith, signed_arith, a, b, low))
    (omega (arith, signed_arith, d, high)) in
    let past : c.args.end ≤ℤ c.loop-days.days.from = omega (arith, signed_arith, c.loop-days-test.false, from, end) in
    rw (end) (record { first = searched-end _ _ _ _ _ i past })
