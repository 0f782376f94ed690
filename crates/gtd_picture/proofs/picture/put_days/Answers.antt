use Rattle.std.proofs.Common.{◌≡◌, ◌∙◌, sym, ◌+◌, ◌*◌, ◌≤◌, ◌<◌, ◌^◌, ap, refl, arith, ℕ, List, [], ◌∷◌, ◌++◌, length}
use Rattle.std.proofs.Common.{append_assoc}
use Rattle.std.proofs.Common.{rules, FitsSigned, to_z, of_z, w64, to_z-of_z}
use Rattle.std.specs.Prelude.{Ok, Err, ℤ, pos, ◌+ℤ◌}
use Rattle.std.proofs.lemmas.Result.{err_from_is_err_and}
use Rattle.gtd_calendar.specs.facts.Signed.{signed_arith}
use Rattle.gtd_spans.specs.Normal.{Holds}
use Rattle.gtd_report.specs.facts.PutFacts.{one_put, one_short, puts_cut, puts_none, puts_nothing, puts_then}
use Rattle.gtd_report.specs.Putting.{Puts}
use Rattle.gtd_report.specs.declared.output.Progress.{Progress}
use Rattle.gtd_picture.specs.Picture.{AreColumns, Rect, day_line, day_lines}
use Rattle.gtd_picture.proofs.ColumnFacts.{day_lines-append, length-columns, no_columns, one_more, whole_picture}
use Rattle.gtd_picture.proofs.TextFacts.{column_short, day_short, days_short}
use Rattle.gtd_picture.proofs.picture.put_days.Goals as goal

-- the lines of the days so far, and of one more, and of those left
lines_then : (first day : ℤ) (place : ℕ) (done more : List (List Rect)) (column : List Rect) → length done ≡ place
    → day ≡ first +ℤ pos place
    → day_lines first 0 (done ++ (column ∷ more)) ≡ day_lines first 0 done
    ++ (day_line day place column ∷ day_lines (day +ℤ pos 1) (place + 1) more)
lines_then first day place done more column long is =
    day_lines-append first day 0 place done (column ∷ more) (is ∙ ap (λ (n : ℕ). first +ℤ pos n) (sym long)) (omega (arith, long))

-- there is room for one line more
room : (now old line n days : ℕ) → now ≤ old + 1901100 * n → old ≤ 2 ^ 63 → line ≤ 1901100 → n < days → days ≤ 366
    → now + line < 2 ^ 64
room now old line n days a b c d e = omega arith

pub loop-place-init : goal.loop-place-init
loop-place-init g c = record {
  done = [];
  are = no_columns (Holds c.args.seconds.now) _ _;
  left = λ t h. ((λ k. k), (λ k. k));
  puts = puts_none (g.O.Output.taken c.args.output.now) c.args.printer.now.progress;
  failures = refl;
}

pub returns-in_err-write_day-clause-puts : goal.returns-in_err-write_day-clause-puts
returns-in_err-write_day-clause-puts g c =
    let fits : FitsSigned w64 c.args.first = search rules in
    let same : to_z w64 (of_z w64 c.args.first) ≡ c.args.first = to_z-of_z fits in
    let i = c.loop-place.invariant in
    let before : AreColumns (Holds c.args.seconds.now) c.args.first 0 c.loop-place.place i.done = rw same at i.are in
    let put = rw same at i.puts in
    let p = err_from_is_err_and c.from_residual.result c.from_residual.ensures.1 in
    let taken = g.O.Output.taken in
    let a = taken c.args.output.now in
    let b = taken c.loop-place.output in
    let t = whole_picture c.args.seconds.now c.args.first c.loop-place.place c.args.days i.done (omega arith) before in
    let long = length-columns (Holds c.args.seconds.now) c.args.first 0 c.loop-place.place i.done before in
    let lines = day_lines-append c.args.first (c.args.first +ℤ pos c.loop-place.place) 0 c.loop-place.place i.done t.0 (rw
    long refl) (omega (arith, long)) in
    let more = day_lines (c.args.first +ℤ pos c.loop-place.place) c.loop-place.place t.0 in (
      i.done ++ t.0,
      t.1,
      rw (p.1, lines) (puts_then (Err p.0) a b b c.args.printer.now.progress c.loop-place.printer.progress
          c.loop-place.printer.progress (day_lines
          c.args.first 0 i.done) more put
          (puts_nothing p.0 b c.loop-place.printer.progress more)),
    )

pub put_line-requires-clause-written : goal.put_line-requires-clause-written
put_line-requires-clause-written g c =
    let fits : FitsSigned w64 c.args.first = search rules in
    let same : to_z w64 (of_z w64 c.args.first) ≡ c.args.first = to_z-of_z fits in
    let i = c.loop-place.invariant in
    let before : AreColumns (Holds c.args.seconds.now) c.args.first 0 c.loop-place.place i.done = rw same at i.are in
    let put = rw same at i.puts in
    let l = days_short (Holds c.args.seconds.now) c.args.first 0 c.loop-place.place i.done (omega arith) before in
    let w = ap (λ (p : Progress). p.written) put.1 in
    let it = c.in_ok-write_day.ensures.line in
    let day : ℤ = to_z w64 (of_z w64 (to_z w64 (of_z w64 c.args.first) +ℤ to_z w64 (of_z w64 c.from.result))) in
    let short = day_short day c.loop-place.place it.0 (omega arith) (column_short (Holds c.loop-place.seconds) day
    c.loop-place.place it.0 (omega arith) it.1) in
    let line = ap length (c.as_slice.ensures.value ∙ it.2) in
    let more = l.1 in
    room c.loop-place.printer.progress.written c.args.printer.now.progress.written (length c.as_slice.result.now)
    c.loop-place.place c.args.days
    (omega (arith, more, w)) (omega arith) (omega (arith, line, short)) (omega arith) (omega arith)

pub put_line-requires-clause-lines : goal.put_line-requires-clause-lines
put_line-requires-clause-lines g c =
    let fits : FitsSigned w64 c.args.first = search rules in
    let same : to_z w64 (of_z w64 c.args.first) ≡ c.args.first = to_z-of_z fits in
    let i = c.loop-place.invariant in
    let before : AreColumns (Holds c.args.seconds.now) c.args.first 0 c.loop-place.place i.done = rw same at i.are in
    let put = rw same at i.puts in
    let l = days_short (Holds c.args.seconds.now) c.args.first 0 c.loop-place.place i.done (omega arith) before in
    let w = ap (λ (p : Progress). p.lines) put.1 in
    let n = l.0 in
    omega (arith, n, w)

pub returns-in_err-put_line-clause-puts : goal.returns-in_err-put_line-clause-puts
returns-in_err-put_line-clause-puts g c =
    let fits : FitsSigned w64 c.args.first = search rules in
    let same : to_z w64 (of_z w64 c.args.first) ≡ c.args.first = to_z-of_z fits in
    let i = c.loop-place.invariant in
    let before : AreColumns (Holds c.args.seconds.now) c.args.first 0 c.loop-place.place i.done = rw same at i.are in
    let put = rw same at i.puts in
    let p = err_from_is_err_and c.from_residual-in_err-put_line.result c.from_residual-in_err-put_line.ensures.1 in
    let taken = g.O.Output.taken in
    let a = taken c.args.output.now in
    let b = taken c.loop-place.output in
    let d = taken c.put_line.new.output in
    let e = c.in_err-put_line.ensures in
    let it = c.in_ok-write_day.ensures.line in
    let day : ℤ = to_z w64 (of_z w64 (to_z w64 (of_z w64 c.args.first) +ℤ to_z w64 (of_z w64 c.from.result))) in
    let at : day ≡ c.args.first +ℤ pos c.loop-place.place = omega (arith, signed_arith) in
    let left = rw same at i.left in
    let line = day_line day c.loop-place.place it.0 in
    let is : c.as_slice.result.now ≡ line = c.as_slice.ensures.value ∙ it.2 in
    let long = length-columns (Holds c.args.seconds.now) c.args.first 0 c.loop-place.place i.done before in
    let are = one_more c.args.seconds.now c.loop-place.seconds c.args.first day c.loop-place.place i.done it.0 at before left
    it.1 in
    let t = whole_picture c.args.seconds.now c.args.first (c.loop-place.place + 1) c.args.days (i.done
    ++ (it.0 ∷ [])) (omega arith) are in
    let one : Puts (Err p.0) b d c.loop-place.printer.progress c.put_line.new.progress (line ∷ []) =
    one_short p.0 line c.in_err-put_line.field-0.0.taken b d c.loop-place.printer.progress c.put_line.new.progress (rw is at
    e.some.0)
    (rw is at e.some.1) e.progress in
    let lines = lines_then c.args.first day c.loop-place.place i.done t.0 it.0 long at in
    let puts = puts_then (Err p.0) a b d c.args.printer.now.progress c.loop-place.printer.progress c.put_line.new.progress
    (day_lines
    c.args.first 0 i.done) _ put
    (puts_cut p.0 b d c.loop-place.printer.progress c.put_line.new.progress (line ∷ []) (day_lines (day +ℤ pos 1)
    (c.loop-place.place
    + 1) t.0) one) in
    ((i.done ++ (it.0 ∷ [])) ++ t.0, t.1, rw (p.1) (rw (append_assoc i.done (it.0 ∷ []) t.0, lines) puts))

pub loop-place-preserved : goal.loop-place-preserved
loop-place-preserved g c =
    let fits : FitsSigned w64 c.args.first = search rules in
    let same : to_z w64 (of_z w64 c.args.first) ≡ c.args.first = to_z-of_z fits in
    let i = c.loop-place.invariant in
    let before : AreColumns (Holds c.args.seconds.now) c.args.first 0 c.loop-place.place i.done = rw same at i.are in
    let put = rw same at i.puts in
    let taken = g.O.Output.taken in
    let a = taken c.args.output.now in
    let b = taken c.loop-place.output in
    let d = taken c.put_line.new.output in
    let e = c.in_ok-put_line.ensures in
    let it = c.in_ok-write_day.ensures.line in
    let day : ℤ = to_z w64 (of_z w64 (to_z w64 (of_z w64 c.args.first) +ℤ to_z w64 (of_z w64 c.from.result))) in
    let at : day ≡ c.args.first +ℤ pos c.loop-place.place = omega (arith, signed_arith) in
    let left = rw same at i.left in
    let line = day_line day c.loop-place.place it.0 in
    let is : c.as_slice.result.now ≡ line = c.as_slice.ensures.value ∙ it.2 in
    let one : Puts (Ok tt) b d c.loop-place.printer.progress c.put_line.new.progress (line ∷ []) =
    one_put line b d c.loop-place.printer.progress c.put_line.new.progress (rw is at e.all) (rw is at e.progress) in
    let long = length-columns (Holds c.args.seconds.now) c.args.first 0 c.loop-place.place i.done before in
    let are = one_more c.args.seconds.now c.loop-place.seconds c.args.first day c.loop-place.place i.done it.0 at before left
    it.1 in
    let lines = lines_then c.args.first day c.loop-place.place i.done [] it.0 long at in
    let puts = puts_then (Ok tt) a b d c.args.printer.now.progress c.loop-place.printer.progress c.put_line.new.progress
    (day_lines
    c.args.first 0 i.done) (line ∷ []) put one in
    record {
      done = i.done ++ (it.0 ∷ []);
      are = rw same are;
      left = rw same (λ t h.
          let p = left t (omega (arith, signed_arith, h)) in
          let q = c.in_ok-write_day.ensures.later t (omega (arith, signed_arith, h)) in
          ((λ k. q.0 (p.0 k)), (λ k. p.1 (q.1 k))));
      puts = rw (same, lines) puts;
      failures = e.failures ∙ i.failures;
    }
