-- One row more adds its lines, and row numbers and lines keep step.
use Rattle.std.proofs.Common.{◌≡◌, ◌∙◌, ap, arith, subst, sym, ℕ, [], ◌∷◌, ◌++◌, ◌+◌, length, take}
use Rattle.std.proofs.lemmas.List.{length-take, take_more}
use Rattle.gtd_faults.specs.Places.{IsLine}
use Rattle.gtd_hours_file.specs.Warnings.{AreRowLines}
use Rattle.gtd_hours_file.specs.declared.row.HoursRow.{HoursRow}
use Rattle.gtd_hours_file.proofs.WarningFacts.{warnings_more}
use Rattle.gtd_hours_file.proofs.warnings.warnings_of.Goals as goal

pub loop-row-preserved : goal.loop-row-preserved
loop-row-preserved c =
    let at = c.loop-row.row-index in
    let path = c.args.path.now in
    let bytes = c.args.bytes.now in
    let rows = c.args.rows.now in
    let row = c.row-item.result in
    let so_far = c.loop-row.invariant in
    let next : take (at + 1) rows ≡ take at rows ++ row ∷ [] =
    take_more rows at row c.loop-row-test.true ∙ ap (λ (x : HoursRow). take at rows ++ x ∷ []) (sym c.row-item.is) in
    let line = c.in_ok-line.ensures.line bytes so_far.2 so_far.3 in
    let stands = c.in_ok-line.ensures.at bytes so_far.2 so_far.3 in
    let number = so_far.1 in
    let size = length-take at rows in
    let place : c.loop-row.number + 1 ≡ 1 + length (take at rows) = omega (arith, number, size, c.loop-row-test.true) in (
      rw (next, c.in_ok-extend_from_slice.ensures.items, c.as_slice.ensures.value)
          (warnings_more path bytes 1 (take at rows) row c.loop-row.text.items c.in_ok-lines.lines.items c.in_ok-line.line
          (subst (λ (n : ℕ). IsLine bytes n c.in_ok-line.line) place line)
          (subst (λ (n : ℕ). AreRowLines path c.in_ok-line.line n row c.in_ok-lines.lines.items) place c.in_ok-lines.ensures)
          so_far.0),
      omega (arith, number),
      stands.0,
      stands.2,
    )
