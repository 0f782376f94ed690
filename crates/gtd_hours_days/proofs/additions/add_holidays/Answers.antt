-- One row more adds its holidays, moved by the offset; behind the last row they are those of the whole table.
use Rattle.std.proofs.Common.{◌≡◌, ◌∙◌, ◌+◌, ◌++◌, ◌∷◌, [], ap, refl, sym, take, arith}
use Rattle.std.proofs.lemmas.List.{take_all, take_more}
use Rattle.gtd_hours_holidays.specs.Days.{IsIn}
use Rattle.gtd_hours_holidays.specs.declared.row.HolidayRow.{HolidayRow}
use Rattle.gtd_hours_days.proofs.AdditionFacts.{no_rows, row_more}
use Rattle.gtd_hours_days.proofs.additions.add_holidays.Goals as goal

pub loop-row-init : goal.loop-row-init
loop-row-init c = record {
  begins = refl;
  added = no_rows c.args.years c.args.kind c.args.offset.days (IsIn c.args.days.now);
}

pub add_row-requires : goal.add_row-requires
add_row-requires c = rw c.loop-row.invariant.begins c.requires

pub loop-row-preserved : goal.loop-row-preserved
loop-row-preserved c =
    let at = c.loop-row.row-index in
    let rows = c.args.rows.now in
    let r = c.row-item.result in
    let next : take (at + 1) rows ≡ take at rows ++ r ∷ [] =
    take_more rows at r c.loop-row-test.true ∙ ap (λ (x : HolidayRow). take at rows ++ x ∷ []) (sym c.row-item.is) in
    record {
      begins = c.add_row.ensures.begins ∙ c.loop-row.invariant.begins;
      added = rw next (row_more c.args.years c.args.kind c.args.offset.days (take at rows) r (IsIn c.add_row.new.days)
          (IsIn c.loop-row.days) (IsIn c.args.days.now) c.loop-row.invariant.added c.in_ok-add_row.ensures.added);
    }

pub returns-clause-added : goal.returns-clause-added
returns-clause-added c = rw (take_all c.loop-row.row-index c.args.rows.now (omega arith)) at c.loop-row.invariant.added
