-- The days of a range that the month has in every year: none if only 29 February is left, else one stretch of days.
use Rattle.std.proofs.Common.{◌≡◌, ◌+◌, arith}
use Rattle.gtd_hours_leaves.specs.Leaves.{maybe_leaves, minutes_of, moved_day}
use Rattle.gtd_hours_selectors.proofs.DateLemmas.{common-days, leap-alone, one_after, or_none, or_same}
use Rattle.gtd_hours_selectors.proofs.dates.and_common.Goals as goal

pub returns-then-top-low-clause-days : goal.returns-then-top-low-clause-days
returns-then-top-low-clause-days c s =
    let short = c.shortest-short.ensures in
    let common = common-days c.args.month c.args.low c.args.high c.shortest-short.result c.lesser-top.result
    (moved_day (minutes_of c.args.clock) s) c.lesser-top.ensures short.all short.full short.short in
    or_none _ _ (λ y. let x = common.1 y in omega (arith, x.1, x.2, c.if-top-low.true))

pub returns-then-top-low-clause-leaves : goal.returns-then-top-low-clause-leaves
returns-then-top-low-clause-leaves c =
    let short = c.shortest-short.ensures in
    leap-alone c.args.month c.args.low c.args.high c.shortest-short.result c.lesser-top.result (maybe_leaves c.args.so_far)
    c.requires.date c.requires.order c.lesser-top.ensures short.full short.short c.if-top-low.true

pub returns-clause-days : goal.returns-clause-days
returns-clause-days c s =
    let short = c.shortest-short.ensures in
    let common = common-days c.args.month c.args.low c.args.high c.shortest-short.result c.lesser-top.result
    (moved_day (minutes_of c.args.clock) s) c.lesser-top.ensures short.all short.full short.short in
    let last : c.args.low + c.from-count.result ≡ c.lesser-top.result + 1 = omega
    (arith, c.from-count.ensures, c.if-top-low.false) in
    or_same _ _ _ _ (one_after _ _ _ (rw last at (c.stretch-days.ensures.days s)) common) (c.in_ok-expr.ensures.seconds s)
