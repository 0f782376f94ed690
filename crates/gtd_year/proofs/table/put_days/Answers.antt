-- The lines of the first days were put; the next one is put whole, or some first bytes of it.
use Rattle.std.proofs.Common.{◌≡◌, ◌∙◌, ap, arith, rules, [], ◌∷◌, drop, take}
use Rattle.std.proofs.Common.{FitsSigned, to_z, of_z, w64, to_z-of_z}
use Rattle.std.specs.Prelude.{Ok, Err, pos, ◌+ℤ◌}
use Rattle.std.proofs.lemmas.Result.{err_from_is_err_and}
use Rattle.gtd_calendar.specs.facts.Signed.{signed_arith}
use Rattle.gtd_report.specs.facts.PutFacts.{one_put, one_short, puts_cut, puts_nothing, puts_then}
use Rattle.gtd_report.specs.Putting.{Puts}
use Rattle.gtd_report.specs.declared.output.Progress.{Progress}
use Rattle.gtd_year.specs.Counts.{count_lines}
use Rattle.gtd_year.proofs.CountLists.{lines_long, lines_parts, next_line}
use Rattle.gtd_year.proofs.table.put_days.Goals as goal

pub returns-in_err-write_day_line-clause-puts : goal.returns-in_err-write_day_line-clause-puts
returns-in_err-write_day_line-clause-puts g c =
    let fits : FitsSigned w64 c.args.first = search rules in
    let same : to_z w64 (of_z w64 c.args.first) ≡ c.args.first = to_z-of_z fits in
    let p = err_from_is_err_and c.from_residual.result c.from_residual.ensures.1 in
    let puts = rw same at c.loop-place.invariant.puts in
    let first = c.args.first in
    let counts = c.args.counts.now in
    let place = c.loop-place.place in
    let a = g.O.Output.taken c.args.output.now in
    let b = g.O.Output.taken c.loop-place.output in
    let now = c.loop-place.printer.progress in
    let rest = count_lines (first +ℤ pos place) (drop place counts) in
    rw (p.1, lines_parts first counts place) (puts_then (Err p.0) a b b c.args.printer.now.progress now now
    (count_lines first (take place counts)) rest puts (puts_nothing p.0 b now rest))

pub put_line-requires-clause-written : goal.put_line-requires-clause-written
put_line-requires-clause-written g c =
    let fits : FitsSigned w64 c.args.first = search rules in
    let same : to_z w64 (of_z w64 c.args.first) ≡ c.args.first = to_z-of_z fits in
    let puts = rw same at c.loop-place.invariant.puts in
    let place = c.loop-place.place in
    let counts = c.args.counts.now in
    let test = rw (← c.requires.all) at c.loop-place-test.true in
    let line = next_line c.args.first _ counts place _ c.as_slice.result.now _ c.as_slice.ensures.value
    c.in_ok-write_day_line.ensures.line test (search rules)
    (omega (arith, signed_arith)) (c.requires.few c.from.result (omega (arith, test))) in
    let l = lines_long c.args.first counts place (omega (arith, test)) c.requires.few in
    let w = ap (λ (p : Progress). p.written) puts.1 in
    let none = ap (λ (p : Progress). p.written) c.requires.begins in
    omega (arith, signed_arith, l.1, w, none, line.0, test)

pub put_line-requires-clause-lines : goal.put_line-requires-clause-lines
put_line-requires-clause-lines g c =
    let fits : FitsSigned w64 c.args.first = search rules in
    let same : to_z w64 (of_z w64 c.args.first) ≡ c.args.first = to_z-of_z fits in
    let puts = rw same at c.loop-place.invariant.puts in
    let test = rw (← c.requires.all) at c.loop-place-test.true in
    let l = lines_long c.args.first c.args.counts.now c.loop-place.place (omega (arith, test)) c.requires.few in
    let w = ap (λ (p : Progress). p.lines) puts.1 in
    let none = ap (λ (p : Progress). p.lines) c.requires.begins in
    omega (arith, signed_arith, l.0, w, none, test)

pub returns-in_err-put_line-clause-puts : goal.returns-in_err-put_line-clause-puts
returns-in_err-put_line-clause-puts g c =
    let fits : FitsSigned w64 c.args.first = search rules in
    let same : to_z w64 (of_z w64 c.args.first) ≡ c.args.first = to_z-of_z fits in
    let p = err_from_is_err_and c.from_residual-in_err-put_line.result c.from_residual-in_err-put_line.ensures.1 in
    let puts = rw same at c.loop-place.invariant.puts in
    let place = c.loop-place.place in
    let counts = c.args.counts.now in
    let test = rw (← c.requires.all) at c.loop-place-test.true in
    let a = g.O.Output.taken c.args.output.now in
    let b = g.O.Output.taken c.loop-place.output in
    let d = g.O.Output.taken c.put_line.new.output in
    let now = c.loop-place.printer.progress in
    let e = c.in_err-put_line.ensures in
    let line = c.as_slice.result.now in
    let next = next_line c.args.first _ counts place _ line _ c.as_slice.ensures.value
    c.in_ok-write_day_line.ensures.line test (search rules)
    (omega (arith, signed_arith)) (c.requires.few c.from.result (omega (arith, test))) in
    let one : Puts (Err p.0) b d now c.put_line.new.progress (line ∷ []) =
    one_short p.0 line c.in_err-put_line.field-0.0.taken b d now c.put_line.new.progress e.some.0 e.some.1 e.progress in
    rw (p.1, next.3) (puts_then (Err p.0) a b d c.args.printer.now.progress now c.put_line.new.progress
    (count_lines c.args.first (take place counts)) (line ∷ next.2) puts
    (puts_cut p.0 b d now c.put_line.new.progress (line ∷ []) next.2 one))

pub loop-place-preserved : goal.loop-place-preserved
loop-place-preserved g c =
    let fits : FitsSigned w64 c.args.first = search rules in
    let same : to_z w64 (of_z w64 c.args.first) ≡ c.args.first = to_z-of_z fits in
    let puts = rw same at c.loop-place.invariant.puts in
    let place = c.loop-place.place in
    let counts = c.args.counts.now in
    let test = rw (← c.requires.all) at c.loop-place-test.true in
    let e = c.in_ok-put_line.ensures in
    let line = c.as_slice.result.now in
    let next = next_line c.args.first _ counts place _ line _ c.as_slice.ensures.value
    c.in_ok-write_day_line.ensures.line test (search rules)
    (omega (arith, signed_arith)) (c.requires.few c.from.result (omega (arith, test))) in
    record {
      puts = rw (same, next.1) (puts_then (Ok tt) _ _ _ c.args.printer.now.progress c.loop-place.printer.progress
          c.put_line.new.progress (count_lines c.args.first (take place counts)) (line ∷ []) puts
          (one_put line _ _ c.loop-place.printer.progress c.put_line.new.progress e.all e.progress));
      failures = e.failures ∙ c.loop-place.invariant.failures;
    }
