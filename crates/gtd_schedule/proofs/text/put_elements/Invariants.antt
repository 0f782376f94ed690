use Rattle.std.proofs.Common.{◌≡◌, ◌≤◌, ◌+◌, ◌*◌, drop}
use Rattle.gtd_report.specs.facts.TextFacts.{CarriesText}
use Rattle.gtd_report.specs.Putting.{AreLinesOf, most_direction_bytes, most_direction_lines}
use Rattle.gtd_schedule.specs.OpenCursors.{AreRight, wholes}
use Rattle.gtd_schedule.specs.Schedule.{AreLines}
use Rattle.gtd_schedule.proofs.text.put_elements.Given as goal

-- where the lines of the elements that are left are put, those of all are
abbrev pub invariant-loop-element : goal.invariant-loop-element
invariant-loop-element g l = record {
  carries : CarriesText
      (AreLinesOf (AreLines l.text.found.now l.text.lines.now.schedule.vehicle l.text.lines.now.schedule.horizon) l.elements)
      (g.O.Output.taken l.fn.output) l.fn.printer.progress
      (AreLinesOf (AreLines l.text.found.now l.text.lines.now.schedule.vehicle l.text.lines.now.schedule.horizon)
      (drop l.element-index l.elements))
      (g.O.Output.taken l.output) l.printer.progress;
  right : AreRight l.text.found.now l.text.lines.now.schedule (wholes l.cursors);
  written : l.printer.progress.written ≤ 1000 + 2 * most_direction_bytes * l.element-index;
  lines : l.printer.progress.lines ≤ 1 + 2 * most_direction_lines * l.element-index;
  failures : g.O.Output.failure_count l.output ≡ g.O.Output.failure_count l.fn.output;
}
