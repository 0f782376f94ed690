-- What was put as the spans were handed on is their lines, or a first part of these.
use Rattle.std.proofs.Common.{arith}
use Rattle.gtd_eval.specs.Cursors.{cursor_list}
use Rattle.gtd_schedule.proofs.HandedFacts.{handed_puts, lines_near}
use Rattle.gtd_schedule.proofs.elements.put_spans.Goals as goal

pub returns-then-whole-clause-puts : goal.returns-then-whole-clause-puts
returns-then-whole-clause-puts g c =
    (handed_puts g.O.Output.taken g.O.Output.failure_count _ _ _ _ _ _ _ c.if-whole.ensures.hands_on).0

pub returns-then-whole-clause-near : goal.returns-then-whole-clause-near
returns-then-whole-clause-near g c =
    let puts = handed_puts g.O.Output.taken g.O.Output.failure_count _ _ _ _ _ _ _ c.if-whole.ensures.hands_on in
    lines_near c.args.at.element c.args.at.direction c.args.lines.now.schedule.vehicle (cursor_list c.args.spans.now) _ _ _ _
    (omega arith) (omega arith) puts.0

pub returns-then-whole-clause-failures : goal.returns-then-whole-clause-failures
returns-then-whole-clause-failures g c =
    (handed_puts g.O.Output.taken g.O.Output.failure_count _ _ _ _ _ _ _ c.if-whole.ensures.hands_on).1

pub returns-else-whole-clause-puts : goal.returns-else-whole-clause-puts
returns-else-whole-clause-puts g c =
    (handed_puts g.O.Output.taken g.O.Output.failure_count _ _ _ _ _ _ _ c.if-whole.ensures.hands_on).0

pub returns-else-whole-clause-failures : goal.returns-else-whole-clause-failures
returns-else-whole-clause-failures g c =
    (handed_puts g.O.Output.taken g.O.Output.failure_count _ _ _ _ _ _ _ c.if-whole.ensures.hands_on).1
