-- At each turn the output has taken the lines of the rows passed so far; a line that fails leaves a first part.
use Rattle.std.proofs.Common.{◌≡◌, ◌∙◌, sym, ap, arith, suc, [], ◌∷◌, ◌++◌, length, take, drop, map}
use Rattle.std.specs.Prelude.{Ok, Err}
use Rattle.std.proofs.lemmas.Result.{err_from_is_err_and}
use Rattle.gtd_report.specs.facts.PutFacts.{one_put, one_short, puts_cut, puts_nothing, puts_then}
use Rattle.gtd_report.specs.declared.output.Progress.{Progress}
use Rattle.gtd_migrate.specs.Migrated.{row_line}
use Rattle.gtd_migrate.proofs.RowsFacts.{more_rows, rows_left, rows_split}
use Rattle.gtd_migrate.proofs.run.put_rows.Goals as goal

pub returns-in_err-write_line-clause-puts : goal.returns-in_err-write_line-clause-puts
returns-in_err-write_line-clause-puts g c =
    let p = err_from_is_err_and c.from_residual.result c.from_residual.ensures.1 in
    let taken = g.O.Output.taken in
    let at = c.loop-row.row-index in
    let rows = c.args.rows.now in
    let left = map row_line (drop at rows) in
    rw (p.1, rows_left rows at)
    (puts_then (Err p.0) (taken c.args.output.now) (taken c.loop-row.output)
    (taken c.loop-row.output) c.args.printer.now.progress c.loop-row.printer.progress c.loop-row.printer.progress
    (map row_line (take at rows)) left c.loop-row.invariant.puts
    (puts_nothing p.0 (taken c.loop-row.output) c.loop-row.printer.progress left))

pub returns-in_err-put_line-clause-puts : goal.returns-in_err-put_line-clause-puts
returns-in_err-put_line-clause-puts g c =
    let p = err_from_is_err_and c.from_residual-in_err-put_line.result c.from_residual-in_err-put_line.ensures.1 in
    let taken = g.O.Output.taken in
    let at = c.loop-row.row-index in
    let rows = c.args.rows.now in
    let r = c.row-item.result in
    let e = c.in_err-put_line.ensures in
    let a = taken c.args.output.now in
    let b = taken c.loop-row.output in
    let d = taken c.put_line.new.output in
    let q = c.loop-row.printer.progress in
    let s = c.put_line.new.progress in
    let more = map row_line (drop (suc at) rows) in
    let is : c.as_slice.result.now ≡ row_line r = c.as_slice.ensures.value ∙ c.in_ok-write_line.ensures.text in
    rw (p.1, rows_split rows at r c.loop-row-test.true (sym c.row-item.is))
    (puts_then (Err p.0) a b d c.args.printer.now.progress q s (map row_line (take at rows))
    ((row_line r ∷ []) ++ more) c.loop-row.invariant.puts
    (puts_cut p.0 b d q s (row_line r ∷ []) more
    (one_short p.0 (row_line r) c.in_err-put_line.field-0.0.taken b d q s (rw is at e.some.0) (rw is at e.some.1) e.progress)))

pub loop-row-preserved : goal.loop-row-preserved
loop-row-preserved g c =
    let taken = g.O.Output.taken in
    let i = c.loop-row.invariant in
    let at = c.loop-row.row-index in
    let rows = c.args.rows.now in
    let r = c.row-item.result in
    let e = c.in_ok-put_line.ensures in
    let b = taken c.loop-row.output in
    let d = taken c.put_line.new.output in
    let q = c.loop-row.printer.progress in
    let s = c.put_line.new.progress in
    let text = c.in_ok-write_line.ensures.text in
    let few = c.in_ok-write_line.ensures.short in
    let is : c.as_slice.result.now ≡ row_line r = c.as_slice.ensures.value ∙ text in
    let long : length c.as_slice.result.now ≡ length c.write_line.new.line.items = ap length c.as_slice.ensures.value in
    let lines = ap (λ (t : Progress). t.lines) e.progress in
    let written = ap (λ (t : Progress). t.written) e.progress in
    record {
      puts = rw (more_rows rows at r c.loop-row-test.true (sym c.row-item.is))
          (puts_then (Ok tt) (taken c.args.output.now) b d c.args.printer.now.progress q s (map row_line (take at rows))
          (row_line r ∷ []) i.puts
          (one_put (row_line r) b d q s (rw is at e.all) (rw is at e.progress)));
      written = (let w = i.written in omega arith);
      lines = (let l = i.lines in omega arith);
      failures = e.failures ∙ i.failures;
    }
