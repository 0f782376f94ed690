-- One row more adds its fault if one of its holidays is not covered by any row, with its number in the table.
use Rattle.std.proofs.Common.{◌≡◌, ◌∙◌, ◌+◌, ◌++◌, ◌∷◌, [], ap, sym, arith, take, length}
use Rattle.std.proofs.lemmas.List.{length-take-le, take_more}
use Rattle.gtd_hours_holidays.specs.declared.row.HolidayRow.{HolidayRow}
use Rattle.gtd_hours_holidays.proofs.HolidayFacts.{added_outside}
use Rattle.gtd_hours_holidays.proofs.reader.outside_of.Goals as goal

pub loop-place-preserved : goal.loop-place-preserved
loop-place-preserved c =
    let at = c.loop-place.place in
    let rows = c.args.rows.now in
    let r = c.index-rows-place.result in
    let next : take (at + 1) rows ≡ take at rows ++ r ∷ [] =
    take_more rows at r (omega arith) ∙ ap (λ (x : HolidayRow). take at rows ++ x ∷ []) (sym c.index-rows-place.is) in
    let long : length (take at rows) ≡ at = length-take-le at rows (omega arith) in
    rw next (added_outside rows (take at rows) r c.loop-place.faults.items c.add_outside.new.faults.items _
    (omega (arith, long)) c.loop-place.invariant (c.in_ok-add_outside.ensures rows c.in_ok-public.ensures c.in_ok-school.ensures))
