-- A row that has the day makes it a holiday, and each row passed so far has not.
use Rattle.std.proofs.Common.{◌≡◌, ◌∙◌, ◌+◌, ◌++◌, ◌∷◌, [], ◌<◌, ap, sym, refl, take, get_or, length, false, to_z-of_z}
use Rattle.std.proofs.lemmas.List.{take_more}
use Rattle.gtd_hours_holidays.specs.declared.row.HolidayRow.{HolidayRow}
use Rattle.gtd_hours_holidays.proofs.HolidayFacts.{has_row, none_more}
use Rattle.gtd_hours_holidays.proofs.holidays.Holidays.is_holiday.Goals as goal

pub returns-then-has : goal.returns-then-has
returns-then-has c =
    let at = c.loop-row.row-index in
    let rows = c.args.self.now.rows.items in
    let r = c.row-item.result in
    let value = c.as_slice-row-items.ensures.value in
    let inside : at < length rows = rw value at c.loop-row-test.true in
    let is : r ≡ get_or rows at r = rw value at c.row-item.is in
    let here = rw (to_z-of_z c.ranges.day) at (c.has.ensures.0 c.if-has.true) in
    record {
      is = ((λ yes. has_row c.args.kind false c.args.day rows at r inside is here), (λ holiday. refl));
    }

pub loop-row-preserved : goal.loop-row-preserved
loop-row-preserved c =
    let at = c.loop-row.row-index in
    let rows = c.args.self.now.rows.items in
    let r = c.row-item.result in
    let value = c.as_slice-row-items.ensures.value in
    let inside : at < length rows = rw value at c.loop-row-test.true in
    let is : r ≡ get_or rows at r = rw value at c.row-item.is in
    let next : take (at + 1) rows ≡ take at rows ++ r ∷ [] =
    take_more rows at r inside ∙ ap (λ (x : HolidayRow). take at rows ++ x ∷ []) (sym is) in
    rw next (none_more c.args.kind false _ (take at rows) r c.loop-row.invariant (λ h. let yes = c.has.ensures.1 h in cc))
