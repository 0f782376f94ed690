-- The lines of both directions put in a row are the element's; a failure in either leaves a first part of them.
use Rattle.std.proofs.lemmas.Result.{err_from_is_err_and}
use Rattle.gtd_report.specs.facts.ElementFacts.{both_cut, both_put}
use Rattle.gtd_report.proofs.by_element.put_both.Goals as goal

pub returns-in_err-put_direction-clause-puts : goal.returns-in_err-put_direction-clause-puts
returns-in_err-put_direction-clause-puts g c =
    let p = err_from_is_err_and c.from_residual.result c.from_residual.ensures.1 in
    let each = g.L.DirectionLines.are_lines c.args.text.now c.args.found.now in
    let a = g.O.Output.taken c.args.output.now in
    let b = g.O.Output.taken c.put_direction.new.output in
    rw (p.1) (both_cut each c.args.element p.0 a b c.args.printer.now.progress c.put_direction.new.printer.progress
    c.in_err-put_direction.ensures.puts)

pub returns-clause-puts : goal.returns-clause-puts
returns-clause-puts g c =
    let each = g.L.DirectionLines.are_lines c.args.text.now c.args.found.now in
    let taken = g.O.Output.taken in
    both_put each c.requires.one c.args.element c.put_direction-2.result (taken c.args.output.now)
    (taken c.put_direction.new.output) (taken c.put_direction-2.new.output) c.args.printer.now.progress
    c.put_direction.new.printer.progress c.put_direction-2.new.printer.progress c.in_ok-put_direction.ensures.puts
    c.put_direction-2.ensures.puts
