use Rattle.std.proofs.Common.{arith, ◌≤◌, ◌+◌, ◌*◌, ℕ, length, map}
use Rattle.std.specs.Prelude.{Ok, Err, OnOk, Result}
use Rattle.gtd_eval.specs.Cursors.{cursor_list}
use Rattle.gtd_records.specs.Closing.{IsOpen}
use Rattle.gtd_report.specs.declared.output.Progress.{Progress}
use Rattle.gtd_report.specs.declared.output.Stop.{Stop}
use Rattle.gtd_report.specs.Putting.{most_direction_bytes, most_direction_lines}
use Rattle.gtd_schedule.specs.Lines.{span_line}
use Rattle.gtd_schedule.specs.Schedule.{AreLines}
use Rattle.gtd_schedule.proofs.SpanLines.{lines_are}
use Rattle.gtd_schedule.specs.facts.SpansShown.{normal_few, normal_shown}
use Rattle.gtd_schedule.proofs.ScheduleFacts.{one_lines}
use Rattle.gtd_report.specs.facts.TextFacts.{texts_of}
use Rattle.gtd_schedule.proofs.elements.put_direction_spans.Goals as goal

-- what was put of so few spans
near : (r : Result (Unit {0}) Stop) (p q : Progress) (count : ℕ) → count ≤ most_direction_lines
    → OnOk r ((q.written ≤ p.written + 80 * count) × (q.lines ≤ p.lines + count))
    → OnOk r ((q.written ≤ p.written + most_direction_bytes) × (q.lines ≤ p.lines + most_direction_lines))
near (Ok x) p q count few put =
    let written = put.0 in
    let lines = put.1 in
    (omega arith, omega arith)
near (Err x) p q count few put = tt

pub put_spans-requires-clause-shown : goal.put_spans-requires-clause-shown
put_spans-requires-clause-shown g c =
    let at = c.args.at in
    let schedule = c.args.text.lines.now.schedule in
    normal_shown (IsOpen c.args.text.found.now at.element at.direction schedule.vehicle) schedule.horizon
    (cursor_list c.args.spans.now) c.requires.seconds

pub put_spans-requires-clause-written : goal.put_spans-requires-clause-written
put_spans-requires-clause-written g c =
    let at = c.args.at in
    let schedule = c.args.text.lines.now.schedule in
    let few = normal_few (IsOpen c.args.text.found.now at.element at.direction schedule.vehicle) schedule.horizon
    (cursor_list c.args.spans.now) c.requires.seconds in
    let room = c.requires.written in
    omega arith

pub put_spans-requires-clause-lines : goal.put_spans-requires-clause-lines
put_spans-requires-clause-lines g c =
    let at = c.args.at in
    let schedule = c.args.text.lines.now.schedule in
    let few = normal_few (IsOpen c.args.text.found.now at.element at.direction schedule.vehicle) schedule.horizon
    (cursor_list c.args.spans.now) c.requires.seconds in
    let room = c.requires.lines in
    omega arith

pub returns-clause-puts : goal.returns-clause-puts
returns-clause-puts g c =
    let taken = g.O.Output.taken in
    let at = c.args.at in
    let schedule = c.args.text.lines.now.schedule in
    let spans = cursor_list c.args.spans.now in
    texts_of (AreLines c.args.text.found.now schedule.vehicle schedule.horizon at.element at.direction) c.put_spans.result
    (taken c.args.output.now) (taken c.put_spans.new.output) c.args.printer.now.progress c.put_spans.new.printer.progress
    (map (span_line at.element at.direction schedule.vehicle) spans)
    (one_lines c.args.text.found.now schedule.vehicle schedule.horizon at.element at.direction)
    (record {
      spans = spans;
      normal = c.requires.seconds;
      each = lines_are at.element at.direction schedule.vehicle spans (
          normal_shown (IsOpen c.args.text.found.now at.element at.direction schedule.vehicle) schedule.horizon
          spans c.requires.seconds
          );
    })
    c.put_spans.ensures.puts

pub returns-clause-near : goal.returns-clause-near
returns-clause-near g c =
    let at = c.args.at in
    let schedule = c.args.text.lines.now.schedule in
    let spans = cursor_list c.args.spans.now in
    near c.put_spans.result c.args.printer.now.progress c.put_spans.new.printer.progress (length spans)
    (normal_few (IsOpen c.args.text.found.now at.element at.direction schedule.vehicle) schedule.horizon spans
    c.requires.seconds) c.put_spans.ensures.near
