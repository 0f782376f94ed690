-- Day by day, with its weekday counted along: the weekday alone tells whether the start begins, so no date is needed.
use Rattle.std.proofs.Common.{◌∙◌, sym, ◌<ℤ◌, arith, to_z, to_z-of_z, w64}
use Rattle.gtd_calendar.specs.facts.Signed.{signed_arith}
use Rattle.gtd_recur.proofs.SearchLemmas.{first-found, first-next}
use Rattle.gtd_recur.proofs.SmallLemmas.{small-day}
use Rattle.gtd_recur.proofs.find.next_weekday.Goals as goal

pub returns-then-is_weekday : goal.returns-then-is_weekday
returns-then-is_weekday c =
    let inv = c.loop-found.invariant in
    let on = rw (inv.of_week) at (sym c.is_weekday.ensures ∙ c.if-is_weekday.true) in
    record {
      first = first-found _ _ _ _ c.ranges.day c.ranges.end inv.first
          (λ lt. c.requires.asks (to_z w64 c.loop-found.found-bits) ∙ on);
    }

pub loop-found-preserved : goal.loop-found-preserved
loop-found-preserved c =
    let d0 = c.requires.day_in in let d2 = c.requires.end_in in
    let inv = rw (to_z-of_z c.ranges.day, to_z-of_z c.ranges.end) at c.loop-found.invariant in
    let end = to_z-of_z c.ranges.end in
    let low = inv.first.low in
    let less : to_z w64 c.loop-found.found-bits <ℤ c.args.end = omega (arith, signed_arith, c.loop-found-test.true, end) in
    let found = small-day (to_z w64 c.loop-found.found-bits) (omega (arith, signed_arith, low, d0))
    (omega (arith, signed_arith, less, d2)) in
    let off = rw (inv.of_week) at (sym c.is_weekday.ensures ∙ c.if-is_weekday.false) in
    rw (to_z-of_z c.ranges.day, to_z-of_z c.ranges.end, found.after) (record {
      first = first-next _ _ _ _ inv.first less (c.requires.asks (to_z w64 c.loop-found.found-bits) ∙ off);
      of_week = c.weekday_after-of_week.ensures.next (to_z w64 c.loop-found.found-bits) inv.of_week;
      of_week_in = c.weekday_after-of_week.ensures.bound;
    })

pub returns : goal.returns
returns c =
    let end = to_z-of_z c.ranges.end in
    record {
      first = first-found _ _ _ _ c.ranges.day c.ranges.end c.loop-found.invariant.first
          (λ lt. absurd (omega (arith, signed_arith, lt, c.loop-found-test.false, end)));
    }
