-- From an empty set on, each row of the kind adds its days; behind the last row the set is those of all rows.
use Rattle.std.proofs.Common.{◌≡◌, ◌∙◌, ◌+◌, ◌++◌, ◌∷◌, [], ap, sym, take, arith}
use Rattle.std.proofs.lemmas.List.{take_all, take_more}
use Rattle.gtd_hours_holidays.specs.declared.row.HolidayRow.{HolidayRow}
use Rattle.gtd_hours_holidays.proofs.HolidayFacts.{days_more}
use Rattle.gtd_hours_holidays.proofs.holidays.days_of.Goals as goal

pub loop-row-init : goal.loop-row-init
loop-row-init c = record {
  begins = c.new-days.ensures.begins;
  days = λ n. (c.new-days.ensures.none n, λ h. absurd h);
}

pub loop-row-preserved : goal.loop-row-preserved
loop-row-preserved c =
    let at = c.loop-row.row-index in
    let rows = c.args.rows.now in
    let r = c.row-item.result in
    let next : take (at + 1) rows ≡ take at rows ++ r ∷ [] =
    take_more rows at r c.loop-row-test.true ∙ ap (λ (x : HolidayRow). take at rows ++ x ∷ []) (sym c.row-item.is) in
    record {
      begins = c.add_row.ensures.begins ∙ c.loop-row.invariant.begins;
      days = rw next (days_more c.args.kind c.args.covers c.loop-row.days c.add_row.new.days (take at rows) r
          c.loop-row.invariant.days c.in_ok-add_row.ensures.added);
    }

pub returns : goal.returns
returns c = rw (take_all c.loop-row.row-index c.args.rows.now (omega arith)) at c.loop-row.invariant.days
