-- If the line fails, the output has taken a first part of it, and the count of bytes says how long that is.
use Rattle.std.proofs.lemmas.Result.{err_from_is_err_and}
use Rattle.gtd_report.specs.facts.PutFacts.{one_short}
use Rattle.gtd_changes.proofs.put.put_within.Goals as goal

pub returns-in_err-put_line-clause-puts : goal.returns-in_err-put_line-clause-puts
returns-in_err-put_line-clause-puts g c =
    let p = err_from_is_err_and c.from_residual.result c.from_residual.ensures.1 in
    let e = c.in_err-put_line.ensures in
    rw (p.1) (one_short p.0 c.args.line.now c.in_err-put_line.field-0.0.taken (g.O.Output.taken c.args.output.now)
    (g.O.Output.taken c.put_line.new.output) c.args.progress.now c.put_line.new.progress e.some.0 e.some.1 e.progress)
