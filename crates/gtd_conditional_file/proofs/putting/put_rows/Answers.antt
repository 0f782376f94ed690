-- One row more puts one line more. Where putting stops, the output has the lines of the rows before it, and at most a
-- part of the next one.
use Rattle.std.proofs.Common.{◌≡◌, ◌∙◌, sym, ap, arith, [], ◌∷◌, ◌++◌, ◌+◌, length, take}
use Rattle.std.proofs.lemmas.List.{take_more}
use Rattle.std.proofs.lemmas.Result.{err_from_is_err_and}
use Rattle.gtd_report.specs.facts.PutFacts.{one_put, one_short}
use Rattle.gtd_report.specs.declared.output.Progress.{Progress}
use Rattle.gtd_conditional_elements.specs.declared.found.ElementRow.{ElementRow}
use Rattle.gtd_conditional_file.proofs.PutFacts.{put_more, stopped_before, stopped_within}
use Rattle.gtd_conditional_file.proofs.putting.put_rows.Goals as goal

pub returns-in_err-write_line-clause-puts : goal.returns-in_err-write_line-clause-puts
returns-in_err-write_line-clause-puts g c =
    let p = err_from_is_err_and c.from_residual.result c.from_residual.ensures.1 in
    let taken = g.O.Output.taken in
    rw (p.1)
    (stopped_before p.0 (taken c.args.output.now) (taken c.loop-row.output) c.args.progress.now c.loop-row.progress
    c.args.rows.now c.loop-row.row-index c.loop-row.invariant.puts)

pub returns-in_err-put_line-clause-puts : goal.returns-in_err-put_line-clause-puts
returns-in_err-put_line-clause-puts g c =
    let p = err_from_is_err_and c.from_residual-in_err-put_line.result c.from_residual-in_err-put_line.ensures.1 in
    let taken = g.O.Output.taken in
    let at = c.loop-row.row-index in
    let rows = c.args.rows.now in
    let r = c.row-item.result in
    let e = c.in_err-put_line.ensures in
    let b = taken c.loop-row.output in
    let d = taken c.put_line.new.output in
    let q = c.loop-row.progress in
    let s = c.put_line.new.progress in
    let line = c.write_line.new.line.items in
    let is : c.as_slice.result.now ≡ line = c.as_slice.ensures.value in
    let next : take (at + 1) rows ≡ take at rows ++ r ∷ [] =
    take_more rows at r c.loop-row-test.true ∙ ap (λ (x : ElementRow). take at rows ++ x ∷ []) (sym c.row-item.is) in
    rw (p.1)
    (stopped_within p.0 (taken c.args.output.now) b d c.args.progress.now q s rows at r line next c.loop-row.invariant.puts
    c.in_ok-write_line.ensures.line
    (one_short p.0 line c.in_err-put_line.field-0.0.taken b d q s (rw is at e.some.0) (rw is at e.some.1) e.progress))

pub loop-row-preserved : goal.loop-row-preserved
loop-row-preserved g c =
    let taken = g.O.Output.taken in
    let i = c.loop-row.invariant in
    let at = c.loop-row.row-index in
    let rows = c.args.rows.now in
    let r = c.row-item.result in
    let e = c.in_ok-put_line.ensures in
    let b = taken c.loop-row.output in
    let d = taken c.put_line.new.output in
    let q = c.loop-row.progress in
    let s = c.put_line.new.progress in
    let line = c.write_line.new.line.items in
    let few = c.in_ok-write_line.ensures.short in
    let is : c.as_slice.result.now ≡ line = c.as_slice.ensures.value in
    let next : take (at + 1) rows ≡ take at rows ++ r ∷ [] =
    take_more rows at r c.loop-row-test.true ∙ ap (λ (x : ElementRow). take at rows ++ x ∷ []) (sym c.row-item.is) in
    let long : length c.as_slice.result.now ≡ length line = ap length c.as_slice.ensures.value in
    let lines = ap (λ (t : Progress). t.lines) e.progress in
    let written = ap (λ (t : Progress). t.written) e.progress in
    record {
      puts = rw next
          (put_more (taken c.args.output.now) b d c.args.progress.now q s (take at rows) r line i.puts
          c.in_ok-write_line.ensures.line (one_put line b d q s (rw is at e.all) (rw is at e.progress)));
      written = (let w = i.written in omega arith);
      lines = (let l = i.lines in omega arith);
      failures = e.failures ∙ i.failures;
    }
