-- What is open is all, nothing, or what a cursor of the element hands out.
use Rattle.std.proofs.Common.{[], refl}
use Rattle.std.proofs.lemmas.Result.{err_from_is_err_and}
use Rattle.gtd_eval.specs.Cursors.{cursor_list}
use Rattle.gtd_records.specs.facts.ClosedFacts.{always_closed, never_closed}
use Rattle.gtd_report.specs.facts.PutFacts.{puts_none, puts_nothing}
use Rattle.gtd_schedule.proofs.text.put_direction.Goals as goal

pub put_direction_spans-requires-clause-seconds : goal.put_direction_spans-requires-clause-seconds
put_direction_spans-requires-clause-seconds g c =
    let schedule = c.args.text.lines.now.schedule in
    let at = c.args.asked.at in
    never_closed c.args.text.found.now at.element at.direction schedule.vehicle schedule.horizon
    (cursor_list c.whole-spans.result) (rw c.in-Never.is at c.requires.when) c.whole-spans.ensures.list

pub returns-in_err-use_for-in-ByDomains-clause-puts : goal.returns-in_err-use_for-in-ByDomains-clause-puts
returns-in_err-use_for-in-ByDomains-clause-puts g c =
    let p = err_from_is_err_and c.from_residual.result c.from_residual.ensures.1 in
    rw (p.1) (λ lines are. puts_nothing p.0 (g.O.Output.taken c.args.output.now) c.args.printer.now.progress lines)

pub returns-in-Always-clause-puts : goal.returns-in-Always-clause-puts
returns-in-Always-clause-puts g c =
    let schedule = c.args.text.lines.now.schedule in
    let at = c.args.asked.at in (
      [],
      record {
        spans = [];
        normal = always_closed c.args.text.found.now at.element at.direction schedule.vehicle schedule.horizon []
            (rw c.in-Always.is at c.requires.when) (λ t h. h) tt;
        each = refl;
      },
      puts_none (g.O.Output.taken c.args.output.now) c.args.printer.now.progress,
    )
