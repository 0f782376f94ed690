-- The days passed are covered, and a day that no row covers is the first.
use Rattle.std.proofs.Common.{rules, ◌∙◌, ap, sym, arith, ℕ, FitsSigned, w64, to_z, to_z-of_z}
use Rattle.gtd_calendar.specs.facts.Signed.{signed_arith}
use Rattle.gtd_hours_holidays.proofs.HolidayFacts.{covered_on, first_is}
use Rattle.gtd_hours_holidays.proofs.holidays.Holidays.first_uncovered.Goals as goal

pub returns-then-until-near : goal.returns-then-until-near
returns-then-until-near c =
    let rows = c.args.self.now.rows.items in
    let near : FitsSigned w64 c.covered_in_order-near.result = search rules in
    let until : FitsSigned w64 c.covered_until-until.result = search rules in
    let to = to_z-of_z c.ranges.to in
    let here = to_z-of_z near in
    let so_far = rw (to_z-of_z c.ranges.from) at c.loop-day.invariant in
    let more = rw c.as_slice-rows.ensures.value at c.covered_in_order-near.ensures in
    let same = sym (to_z-of_z until) ∙ ap (λ (bits : ℕ). to_z w64 bits) c.if-until-near.true in
    let stays = rw (c.as_slice-rows.ensures.value, to_z-of_z near) at (c.covered_until-until.ensures.stays same) in
    record {
      first = rw (to_z-of_z near) (first_is c.args.kind rows c.args.from c.args.to c.covered_in_order-near.result
          (covered_on c.args.kind rows c.args.from _ c.covered_in_order-near.result so_far more)
          (omega (arith, signed_arith, c.if-near-to.false, to, here)) stays);
    }

pub loop-day-preserved : goal.loop-day-preserved
loop-day-preserved c =
    let rows = c.args.self.now.rows.items in
    let near : FitsSigned w64 c.covered_in_order-near.result = search rules in
    let until : FitsSigned w64 c.covered_until-until.result = search rules in
    let so_far = rw (to_z-of_z c.ranges.from) at c.loop-day.invariant in
    let first = rw c.as_slice-rows.ensures.value at c.covered_in_order-near.ensures in
    let more = rw (c.as_slice-rows.ensures.value, to_z-of_z near) at c.covered_until-until.ensures.until in
    rw (to_z-of_z c.ranges.from, to_z-of_z until) (covered_on c.args.kind rows c.args.from _ c.covered_until-until.result
    (covered_on c.args.kind rows c.args.from _ c.covered_in_order-near.result so_far first) more)
