use Rattle.std.proofs.Common.{◌≡◌, ◌≤◌, ◌+◌, ◌*◌, drop}
use Rattle.gtd_report.specs.facts.TextFacts.{CarriesText}
use Rattle.gtd_ask.specs.Answers.{AreAnswers}
use Rattle.gtd_ask.proofs.put.put_answers.Given as goal

-- where the lines of the questions that are left are put, those of all are
abbrev pub invariant-loop-question : goal.invariant-loop-question
invariant-loop-question g l = record {
  carries : CarriesText (AreAnswers l.found l.questions) (g.O.Output.taken l.fn.output) l.fn.printer.progress
      (AreAnswers l.found (drop l.question-index l.questions)) (g.O.Output.taken l.output) l.printer.progress;
  written : l.printer.progress.written ≤ 1000 + 100 * l.question-index;
  lines : l.printer.progress.lines ≤ 1 + l.question-index;
  failures : g.O.Output.failure_count l.output ≡ g.O.Output.failure_count l.fn.output;
}
