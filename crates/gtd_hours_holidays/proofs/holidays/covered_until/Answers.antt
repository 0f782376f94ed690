-- Each row that covers the day reached leads further, and none so far covers a day that is still the first.
use Rattle.std.proofs.Common.{rules, ◌≡◌, ◌∙◌, ◌+◌, ◌++◌, ◌∷◌, [], ap, sym, take, FitsSigned, w64, to_z-of_z}
use Rattle.std.proofs.lemmas.List.{take_more}
use Rattle.gtd_hours_holidays.specs.declared.row.HolidayRow.{HolidayRow}
use Rattle.gtd_hours_holidays.proofs.HolidayFacts.{covered_more, still_none}
use Rattle.gtd_hours_holidays.proofs.holidays.covered_until.Goals as goal

pub loop-row-preserved : goal.loop-row-preserved
loop-row-preserved c =
    let at = c.loop-row.row-index in
    let rows = c.args.rows.now in
    let r = c.row-item.result in
    let next : take (at + 1) rows ≡ take at rows ++ r ∷ [] =
    take_more rows at r c.loop-row-test.true ∙ ap (λ (x : HolidayRow). take at rows ++ x ∷ []) (sym c.row-item.is) in
    let fits : FitsSigned w64 c.after_row-until.result = search rules in
    let so_far = rw (to_z-of_z c.ranges.day) at c.loop-row.invariant.until in
    let none = rw (to_z-of_z c.ranges.day) at c.loop-row.invariant.stays in
    record {
      until = rw (to_z-of_z c.ranges.day, to_z-of_z fits) (covered_more c.args.kind rows c.args.day _ at r
          c.loop-row-test.true c.row-item.is so_far c.after_row-until.result c.after_row-until.ensures);
      stays = rw (to_z-of_z c.ranges.day, to_z-of_z fits, next) (still_none c.args.kind rows c.args.day _ at r
          c.loop-row-test.true c.row-item.is so_far c.after_row-until.result (take at rows) none c.after_row-until.ensures);
    }
