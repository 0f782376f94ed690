-- The lines of both directions put in a row are the element's; a failure in either leaves a first part of them.
use Rattle.std.proofs.lemmas.Result.{err_from_is_err_and}
use Rattle.gtd_report.specs.facts.ElementFacts.{both_cut, both_put}
use Rattle.gtd_schedule.proofs.ScheduleFacts.{one_lines}
use Rattle.gtd_schedule.specs.Schedule.{AreLines}
use Rattle.gtd_schedule.proofs.text.put_element.Goals as goal

pub returns-in_err-put_direction-clause-puts : goal.returns-in_err-put_direction-clause-puts
returns-in_err-put_direction-clause-puts g c =
    let p = err_from_is_err_and c.from_residual.result c.from_residual.ensures.1 in
    let schedule = c.args.text.lines.now.schedule in
    let each = AreLines c.args.text.found.now schedule.vehicle schedule.horizon in
    let a = g.O.Output.taken c.args.output.now in
    let b = g.O.Output.taken c.put_direction.new.output in
    rw (p.1) (both_cut each c.args.element p.0 a b c.args.printer.now.progress c.put_direction.new.printer.progress
    c.in_err-put_direction.ensures.puts)

pub returns-clause-puts : goal.returns-clause-puts
returns-clause-puts g c =
    let schedule = c.args.text.lines.now.schedule in
    let each = AreLines c.args.text.found.now schedule.vehicle schedule.horizon in
    let taken = g.O.Output.taken in
    both_put each (one_lines c.args.text.found.now schedule.vehicle schedule.horizon) c.args.element c.put_negative.result
    (taken c.args.output.now) (taken c.put_direction.new.output) (taken c.put_negative.new.output) c.args.printer.now.progress
    c.put_direction.new.printer.progress c.put_negative.new.printer.progress c.in_ok-put_direction.ensures.puts
    c.put_negative.ensures.puts
