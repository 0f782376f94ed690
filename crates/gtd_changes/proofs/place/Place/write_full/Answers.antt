use Rattle.std.proofs.Common.{◌≡◌, ◌∙◌, ap, subst, ℕ, List}
use Rattle.std.specs.Prelude.{ℤ}
use Rattle.gtd_core.specs.Seconds.{Interval}
use Rattle.gtd_records.specs.Closing.{Restriction}
use Rattle.gtd_records.specs.ClosingRows.{AreClosingRows}
use Rattle.gtd_rows.specs.declared.direction.Direction.{Direction}
use Rattle.gtd_changes.proofs.ChangeFacts.{on_ok}
use Rattle.gtd_changes.specs.Changes.{span_of}
use Rattle.gtd_changes.specs.facts.RowsFacts.{full_line, one_full}
use Rattle.gtd_changes.proofs.place.Place.write_full.Goals as goal

-- the rows at a second that is the first one
at_first : (found : List Restriction) (element : ℕ) (direction : Direction) (vehicle : ℕ) (second first : ℤ) (rows : List ℕ)
    → second ≡ first → AreClosingRows found element direction vehicle second rows
    → AreClosingRows found element direction vehicle first rows
at_first found element direction vehicle second first rows is are =
    subst (λ (t : ℤ). AreClosingRows found element direction vehicle t rows) is are

pub returns : goal.returns
returns c =
    let p = c.args.self.now in
    let change = c.args.change.now in
    let first = c.from-first.ensures.value ∙ ap (λ (x : Interval). x.from) c.span.ensures.value in
    record {
      line = on_ok c.write_rows.result _
          (c.write_rows.new.line.items ≡ full_line p.old.now p.new.now p.vehicle p.at.element p.at.direction change)
          (λ e. one_full p.old.now p.new.now p.vehicle p.at.element p.at.direction change c.in_ok-old_rows.old_rows.items
          c.in_ok-new_rows.new_rows.items c.write_rows.new.line.items
          (at_first p.old.now p.at.element p.at.direction p.vehicle c.from-first.result.0 (span_of change).from
          c.in_ok-old_rows.old_rows.items first c.in_ok-old_rows.ensures.rows)
          (at_first p.new.now p.at.element p.at.direction p.vehicle c.from-first.result.0 (span_of change).from
          c.in_ok-new_rows.new_rows.items first c.in_ok-new_rows.ensures.rows)
          (rw (c.as_slice.ensures.value, c.as_slice-2.ensures.value) at e))
          c.write_rows.ensures.line;
    }
