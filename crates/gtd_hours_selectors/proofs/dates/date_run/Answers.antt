-- One stretch reaches the last date: by months to its month and then by days, or by months to the month before it,
-- which is as long in each year, and then by days.
use Rattle.std.proofs.Common.{◌≡◌, ◌≢◌, ◌<◌, ◌+◌, ◌-◌, arith, inl, inr}
use Rattle.gtd_hours_selectors.proofs.DateLemmas.{day-in}
use Rattle.gtd_hours_selectors.proofs.StretchLemmas.{common-days-fit, date-run, ends-over, ends-there, fixed-length}
use Rattle.gtd_hours_selectors.proofs.dates.date_run.Goals as goal

pub returns-then-first-last-clause-days : goal.returns-then-first-last-clause-days
returns-then-first-last-clause-days c s =
    let first = c.args.dates.first in
    let last = c.args.dates.last in
    let f = day-in first.month first.day first.in_range in
    let l = day-in last.month last.day last.in_range in
    let k = c.months_later-months.result in
    date-run _ c.args.clock first.month first.day last.month last.day k k (last.day + 1 - first.day) c.dates_from.ensures
    (f.0, f.1)
    (l.0, l.1) (f.2, c.requires.0) (l.2, l.3) c.months_later-months.ensures.value
    (ends-there first.month first.day last.day k (last.day + 1 - first.day) (f.2, c.requires.0)
    (omega (arith, c.if-first-last.true))) (common-days-fit last.month last.day c.requires.1) s

pub returns-clause-days : goal.returns-clause-days
returns-clause-days c s =
    let first = c.args.dates.first in
    let last = c.args.dates.last in
    let f = day-in first.month first.day first.in_range in
    let l = day-in last.month last.day last.in_range in
    let k = c.months_later-months.result in
    let long = c.shortest-before.result in
    let before = c.month_before.result in
    let j = long + last.day + 1 - first.day in
    let less : last.day < first.day = omega (arith, c.if-first-last.false) in
    let march : last.month ≢ 3 = elim (c.requires.2)
    [ inl le ↦ absurd (omega (arith, le, c.if-first-last.false)) | inr other ↦ other ] in
    let other : before ≡ 2 → ⊥ = λ two. elim (c.month_before.ensures.value) [
      | inl x ↦ march (omega (arith, x, two))
      | inr x ↦ omega (arith, x.1, two)
    ] in
    date-run _ c.args.clock first.month first.day last.month last.day k (k - 1) j c.dates_from-2.ensures (f.0, f.1) (l.0, l.1)
    (f.2, c.requires.0) (l.2, l.3) c.months_later-months.ensures.value
    (ends-over first.month first.day last.month last.day before long k j (f.0, f.1) c.month_before.ensures.month
    (f.2, c.requires.0)
    c.months_later-months.ensures.value (c.months_later-months.ensures.some less) c.month_before.ensures.value
    (fixed-length before long c.shortest-before.ensures.full other)
    (omega (arith, c.requires.0, c.shortest-before.ensures.range))) (common-days-fit last.month last.day c.requires.1) s
