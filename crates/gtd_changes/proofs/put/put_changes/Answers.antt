-- If the spans of an element cannot be found for lack of memory, the output has taken none of its lines.
use Rattle.std.proofs.lemmas.Result.{err_from_is_err_and}
use Rattle.gtd_report.specs.facts.PutFacts.{puts_nothing}
use Rattle.gtd_changes.proofs.put.put_changes.Goals as goal

pub returns-in_err-closed-clause-puts : goal.returns-in_err-closed-clause-puts
returns-in_err-closed-clause-puts g c =
    let p = err_from_is_err_and c.from_residual-in_err-closed.result c.from_residual-in_err-closed.ensures.1 in
    rw (p.1) (λ lines are. puts_nothing p.0 (g.O.Output.taken c.args.output.now) c.args.printer.now.progress lines)
