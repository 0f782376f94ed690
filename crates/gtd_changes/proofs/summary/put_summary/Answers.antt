-- Nothing is put of an element that does not differ; of another one the output takes its line or a first part.
use Rattle.std.proofs.Common.{◌∙◌, ap, refl, sym, true≢false, arith, [], ◌∷◌, length}
use Rattle.std.specs.Prelude.{Err}
use Rattle.std.proofs.lemmas.Result.{err_from_is_err_and}
use Rattle.gtd_report.specs.facts.PutFacts.{one_put, one_short, puts_none, puts_nothing}
use Rattle.gtd_report.specs.facts.TextFacts.{texts_of}
use Rattle.gtd_changes.proofs.SummaryFacts.{one_summary}
use Rattle.gtd_changes.specs.Summary.{AreSummaryLines}
use Rattle.gtd_changes.proofs.summary.put_summary.Goals as goal

pub returns-in_err-differs-clause-puts : goal.returns-in_err-differs-clause-puts
returns-in_err-differs-clause-puts g c =
    let p = err_from_is_err_and c.from_residual.result c.from_residual.ensures.1 in
    rw (p.1) (λ lines are. puts_nothing p.0 (g.O.Output.taken c.args.output.now) c.args.printer.now.progress lines)

pub returns-then-not-branch-clause-puts : goal.returns-then-not-branch-clause-puts
returns-then-not-branch-clause-puts g c = (
  [],
  AreSummaryLines.same (λ d. true≢false (sym (c.in_ok-differs.ensures.differs.1 d) ∙ c.if-not-branch.true)) refl,
  puts_none (g.O.Output.taken c.args.output.now) c.args.printer.now.progress,
)

pub returns-in_err-write_summary-clause-puts : goal.returns-in_err-write_summary-clause-puts
returns-in_err-write_summary-clause-puts g c =
    let p = err_from_is_err_and c.from_residual-in_err-write_summary.result c.from_residual-in_err-write_summary.ensures.1 in
    rw (p.1) (λ lines are. puts_nothing p.0 (g.O.Output.taken c.args.output.now) c.args.printer.now.progress lines)

pub put_line-requires-clause-written : goal.put_line-requires-clause-written
put_line-requires-clause-written g c =
    let long = ap length c.as_slice.ensures.value in
    let short = c.in_ok-write_summary.ensures.short in
    let room = c.requires.written in
    omega (arith, long, short, room)

pub returns-in_err-put_line-clause-puts : goal.returns-in_err-put_line-clause-puts
returns-in_err-put_line-clause-puts g c =
    let p = err_from_is_err_and c.from_residual-in_err-put_line.result c.from_residual-in_err-put_line.ensures.1 in
    let at = c.args.place.now in
    let a = g.O.Output.taken c.args.output.now in
    let b = g.O.Output.taken c.put_line.new.output in
    let line = c.as_slice.result.now in
    let e = c.in_err-put_line.ensures in
    rw (p.1) (texts_of (AreSummaryLines at.old.now at.new.now at.vehicle at.horizon at.at.element at.at.direction)
    (Err p.0) a b c.args.printer.now.progress c.put_line.new.progress (line ∷ [])
    (one_summary at.old.now at.new.now at.vehicle at.horizon at.at.element at.at.direction)
    (AreSummaryLines.differing (c.in_ok-differs.ensures.differs.0 c.if-not-branch.false) line
    (rw (c.as_slice.ensures.value) (c.in_ok-write_summary.ensures.line)) refl)
    (one_short p.0 line c.in_err-put_line.field-0.0.taken a b c.args.printer.now.progress c.put_line.new.progress e.some.0
    e.some.1
    e.progress))

pub returns-clause-puts : goal.returns-clause-puts
returns-clause-puts g c =
    let a = g.O.Output.taken c.args.output.now in
    let b = g.O.Output.taken c.put_line.new.output in
    let line = c.as_slice.result.now in
    let e = c.in_ok-put_line.ensures in (
      line ∷ [],
      AreSummaryLines.differing (c.in_ok-differs.ensures.differs.0 c.if-not-branch.false) line
          (rw (c.as_slice.ensures.value) (c.in_ok-write_summary.ensures.line)) refl,
      one_put line a b c.args.printer.now.progress c.put_line.new.progress e.all e.progress,
    )

pub returns-clause-near : goal.returns-clause-near
returns-clause-near g c =
    let long = ap length c.as_slice.ensures.value in
    let short = c.in_ok-write_summary.ensures.short in
    let after = c.in_ok-put_line.ensures.progress in
    rw after (omega (arith, long, short), omega arith)
