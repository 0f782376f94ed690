-- The file is accepted before anything is put, so what was put is its text or a first part of it.
use Rattle.std.proofs.Common.{rules}
use Rattle.gtd_report.specs.facts.RunFacts.{answer_ended, answer_lines, has_run}
use Rattle.gtd_report.specs.Run.{IsAccepted}
use Rattle.gtd_report.proofs.report.run.Goals as goal

pub returns-clause-stands : goal.returns-clause-stands
returns-clause-stands g c =
    let accepted : IsAccepted c.subject-subject.result c.in-Ok.found = search rules in
    rw c.answer.ensures.value
    (has_run (IsAccepted (g.R.Report.subject c.args.report.now)) (g.R.Report.is_text c.args.report.now) c.put-put.result
    (g.I.Input.to_come c.args.input.now)
    (g.O.Output.taken c.args.output.now) (g.O.Output.taken c.put-put.new.output) c.in-Ok.found c.put-put.new.printer.progress
    c.in-Ok.ensures.file (rw c.subject-subject.ensures.value at accepted)
    (rw c.new-printer.ensures.begins at c.put-put.ensures.puts))

pub returns-clause-ended : goal.returns-clause-ended
returns-clause-ended g c =
    rw c.answer.ensures.value (answer_ended c.put-put.result c.put-put.new.printer.progress
    (g.O.Output.is_ended c.put-put.new.output) c.put-put.ensures.ended)

pub returns-clause-lines : goal.returns-clause-lines
returns-clause-lines g c =
    rw c.answer.ensures.value (answer_lines (g.R.Report.is_text c.args.report.now) c.put-put.result
    (g.O.Output.taken c.args.output.now)
    (g.O.Output.taken c.put-put.new.output) c.in-Ok.found c.put-put.new.printer.progress
    (rw c.new-printer.ensures.begins at c.put-put.ensures.puts))
