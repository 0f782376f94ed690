-- After each question the output holds the lines of those so far, and the counts stay far below their limits.
use Rattle.std.proofs.Common.{◌∙◌, refl, arith}
use Rattle.std.proofs.lemmas.Result.{err_from_is_err_and}
use Rattle.gtd_ask.proofs.AnswerFacts.{none_left, one_more, stopped}
use Rattle.gtd_ask.proofs.put.put_answers.Goals as goal

pub loop-question-init : goal.loop-question-init
loop-question-init g c = record {
  carries = λ r d s puts. puts;
  written = omega (arith, c.requires.written);
  lines = omega (arith, c.requires.lines);
  failures = refl;
}

pub returns-in_err-put_answer-clause-puts : goal.returns-in_err-put_answer-clause-puts
returns-in_err-put_answer-clause-puts g c =
    let p = err_from_is_err_and c.from_residual.result c.from_residual.ensures.1 in
    let taken = g.O.Output.taken in
    rw (p.1) (stopped c.args.found.now c.args.questions.now c.loop-question.question-index
    (taken c.args.output.now) (taken c.loop-question.output) c.args.printer.now.progress c.loop-question.printer.progress
    c.loop-question.invariant.carries (omega arith) _ (taken c.put_answer.new.output) c.put_answer.new.printer.progress p.0
    c.in_err-put_answer.ensures.puts)

pub loop-question-preserved : goal.loop-question-preserved
loop-question-preserved g c =
    let i = c.loop-question.invariant in
    let put = c.in_ok-put_answer.ensures in
    let near = put.near in
    let w = i.written in
    let l = i.lines in
    let taken = g.O.Output.taken in
    record {
      carries = one_more c.args.found.now c.args.questions.now c.loop-question.question-index
          (taken c.args.output.now) (taken c.loop-question.output) c.args.printer.now.progress c.loop-question.printer.progress
          i.carries
          (omega arith) _ (taken c.put_answer.new.output) c.put_answer.new.printer.progress put.puts;
      written = omega arith;
      lines = omega arith;
      failures = put.failures ∙ i.failures;
    }

pub returns-clause-puts : goal.returns-clause-puts
returns-clause-puts g c =
    none_left c.args.found.now c.args.questions.now c.loop-question.question-index (g.O.Output.taken c.args.output.now)
    (g.O.Output.taken c.loop-question.output) c.args.printer.now.progress c.loop-question.printer.progress
    c.loop-question.invariant.carries
    (omega arith)
