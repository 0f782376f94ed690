-- Of one question the output takes its line, or a first part of it if it fails; without memory, nothing.
use Rattle.std.proofs.Common.{ap, refl, arith, [], ◌∷◌, length}
use Rattle.std.specs.Prelude.{Err}
use Rattle.std.proofs.lemmas.Result.{err_from_is_err_and}
use Rattle.gtd_report.specs.facts.PutFacts.{one_put, one_short, puts_nothing}
use Rattle.gtd_report.specs.facts.TextFacts.{texts_of}
use Rattle.gtd_ask.proofs.AnswerFacts.{one_only}
use Rattle.gtd_ask.specs.Answers.{IsAnswer}
use Rattle.gtd_ask.specs.Putting.{IsOnly}
use Rattle.gtd_ask.proofs.put.put_answer.Goals as goal

pub returns-in_err-write_answer-clause-puts : goal.returns-in_err-write_answer-clause-puts
returns-in_err-write_answer-clause-puts g c =
    let p = err_from_is_err_and c.from_residual.result c.from_residual.ensures.1 in
    rw (p.1) (λ lines are. puts_nothing p.0 (g.O.Output.taken c.args.output.now) c.args.printer.now.progress lines)

pub put_line-requires-clause-written : goal.put_line-requires-clause-written
put_line-requires-clause-written g c =
    let long = ap length c.as_slice.ensures.value in
    let short = c.in_ok-write_answer.ensures.short in
    let room = c.requires.written in
    omega (arith, long, short, room)

pub returns-in_err-put_line-clause-puts : goal.returns-in_err-put_line-clause-puts
returns-in_err-put_line-clause-puts g c =
    let p = err_from_is_err_and c.from_residual-in_err-put_line.result c.from_residual-in_err-put_line.ensures.1 in
    let a = g.O.Output.taken c.args.output.now in
    let b = g.O.Output.taken c.put_line.new.output in
    let line = c.as_slice.result.now in
    let e = c.in_err-put_line.ensures in
    rw (p.1) (texts_of (IsOnly (IsAnswer c.args.found.now c.args.question.now))
    (Err p.0) a b c.args.printer.now.progress c.put_line.new.progress
    (line ∷ []) (one_only c.args.found.now c.args.question.now)
    (line, rw (c.as_slice.ensures.value) (c.in_ok-write_answer.ensures.line), refl)
    (one_short p.0 line c.in_err-put_line.field-0.0.taken a b c.args.printer.now.progress c.put_line.new.progress e.some.0
    e.some.1
    e.progress))

pub returns-clause-puts : goal.returns-clause-puts
returns-clause-puts g c =
    let a = g.O.Output.taken c.args.output.now in
    let b = g.O.Output.taken c.put_line.new.output in
    let line = c.as_slice.result.now in
    let e = c.in_ok-put_line.ensures in (
      line ∷ [],
      (line, rw (c.as_slice.ensures.value) (c.in_ok-write_answer.ensures.line), refl),
      one_put line a b c.args.printer.now.progress c.put_line.new.progress e.all e.progress,
    )

pub returns-clause-near : goal.returns-clause-near
returns-clause-near g c =
    let long = ap length c.as_slice.ensures.value in
    let short = c.in_ok-write_answer.ensures.short in
    let after = c.in_ok-put_line.ensures.progress in
    rw after (omega (arith, long, short), omega arith)
