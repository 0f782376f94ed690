-- Run by run backwards: the days of a run without a start are counted and left behind, their number stays below 2^64,
-- and the first day found is the last on which the start begins.
use Rattle.std.proofs.Common.{◌≡◌, ◌≤ℤ◌, ◌<ℤ◌, arith, refl, to_z-of_z}
use Rattle.gtd_calendar.specs.facts.Signed.{signed_arith}
use Rattle.gtd_recur.specs.facts.StartsLemmas.{days_between-nil}
use Rattle.gtd_recur.proofs.BackwardLook.{under-way, looked-at, are-counted, look-found, look-on}
use Rattle.gtd_recur.proofs.OpenLemmas.{back-run, back-end, back-less}
use Rattle.gtd_recur.proofs.SmallLemmas.{small-day}
use Rattle.gtd_recur.proofs.cover.first_look.Goals as goal

pub loop-days-init : goal.loop-days-init
loop-days-init c =
    let low = to_z-of_z c.ranges.low in let seen = to_z-of_z c.ranges.seen in
    rw (low, seen) (back-run c.args.start.now c.args.low c.args.seen c.args.seen c.last_days-days.result.from
    c.last_days-days.result.until 0 (omega (arith, signed_arith)) (rw (low, seen) at c.last_days-days.ensures.run)
    (rw (days_between-nil c.args.seen) refl) (λ m ge lt. absurd (omega (arith, signed_arith, ge, lt))))

pub overflow_add-result : goal.overflow_add-result
overflow_add-result c =
    let k = under-way _ _ _ _ _ _ c.ranges.low c.ranges.seen c.requires.low_in c.requires.seen_in c.loop-days.invariant in
    let d = looked-at _ _ _ _ _ _ _ k c.last_begun-day.ensures.last in
    let ge : c.loop-days.days.from ≤ℤ c.last_begun-day.result = omega (arith, signed_arith, c.if-day-days.true, d, k) in
    let l1 = d.last.before in
    let passed = are-counted _ _ _ _ _ _ _ k ge (omega (arith, signed_arith, l1)) in
    rw (passed.is) (omega (arith, passed.few))

pub overflow_add-looked : goal.overflow_add-looked
overflow_add-looked c =
    let k = under-way _ _ _ _ _ _ c.ranges.low c.ranges.seen c.requires.low_in c.requires.seen_in c.loop-days.invariant in
    let passed = are-counted _ _ _ _ _ _ _ k (omega (arith, signed_arith)) k.looking.order in
    rw (passed.is) (omega (arith, passed.few))

pub returns-then-day-days : goal.returns-then-day-days
returns-then-day-days c =
    let k = under-way _ _ _ _ _ _ c.ranges.low c.ranges.seen c.requires.low_in c.requires.seen_in c.loop-days.invariant in
    let d = looked-at _ _ _ _ _ _ _ k c.last_begun-day.ensures.last in
    let ge : c.loop-days.days.from ≤ℤ c.last_begun-day.result = omega (arith, signed_arith, c.if-day-days.true, d, k) in
    let l1 = d.last.before in
    let passed = are-counted _ _ _ _ _ _ _ k ge (omega (arith, signed_arith, l1)) in
    rw (passed.is, d.small.is) (record { look = look-found _ _ _ _ _ _ _ k d.last ge })

pub loop-days-smaller : goal.loop-days-smaller
loop-days-smaller c =
    let k = under-way _ _ _ _ _ _ c.ranges.low c.ranges.seen c.requires.low_in c.requires.seen_in c.loop-days.invariant in
    let more : c.args.low <ℤ c.loop-days.days.until = omega (arith, signed_arith, c.loop-days-test.true, k) in
    let some = k.looking.some more in
    let run = rw (k.low_is, k.begins.is) at c.last_days-days-in-loop-days.ensures.run in
    let b1 = run.begin in let b2 = run.order in let b3 = run.within in
    rw (k.low_is) (back-less c.args.low c.loop-days.days.until c.last_days-days-in-loop-days.result.until
    (omega (arith, signed_arith, b1, b2)) (omega (arith, signed_arith, b3, some)))

pub loop-days-preserved : goal.loop-days-preserved
loop-days-preserved c =
    let k = under-way _ _ _ _ _ _ c.ranges.low c.ranges.seen c.requires.low_in c.requires.seen_in c.loop-days.invariant in
    let d = looked-at _ _ _ _ _ _ _ k c.last_begun-day.ensures.last in
    let less : c.last_begun-day.result <ℤ c.loop-days.days.from = omega (arith, signed_arith, c.if-day-days.false, d, k) in
    let passed = are-counted _ _ _ _ _ _ _ k (omega (arith, signed_arith)) k.looking.order in
    rw (k.low_is, k.n_is, passed.is) (look-on c.args.start.now c.args.low c.args.seen _ _ c.last_begun-day.result _ _ _ k
    d.last less (rw (k.low_is, k.begins.is) at c.last_days-days-in-loop-days.ensures.run))

pub returns : goal.returns
returns c =
    let k = under-way _ _ _ _ _ _ c.ranges.low c.ranges.seen c.requires.low_in c.requires.seen_in c.loop-days.invariant in
    let past : c.loop-days.days.until ≤ℤ c.args.low = omega (arith, signed_arith, c.loop-days-test.false, k) in
    let a2 = k.looking.begin in let a3 = k.looking.order in let high = k.begins.high in
    let same : c.loop-days.days.until ≡ c.args.low = omega (arith, signed_arith, past, a2, a3) in
    let low = small-day c.args.low (omega (arith, signed_arith, k.low_in)) (omega (arith, signed_arith, a2, high)) in
    rw (k.low_is, low.before) (record { look = back-end _ _ _ _ _ _ same k.looking c.requires.order })
