use Rattle.std.proofs.Common.{◌≡◌, ◌≤◌, ◌+◌, ◌*◌, false, length, map}
use Rattle.gtd_report.specs.Putting.{most_direction_bytes}
use Rattle.gtd_changes.proofs.ChangeFacts.{Carries}
use Rattle.gtd_changes.specs.Merging.{by_from, with_ahead}
use Rattle.gtd_changes.specs.facts.RowsFacts.{line_with}
use Rattle.gtd_changes.specs.facts.ToldFacts.{AllTold}
use Rattle.gtd_changes.proofs.put.put_changed.Given as goal

-- where the lines of the changes that are left are put, those of all are
abbrev pub invariant-loop-change : goal.invariant-loop-change
invariant-loop-change g l = record {
  told : AllTold (by_from (with_ahead l.ahead.opened (g.A.SpanSource.rest l.opened))
      (with_ahead l.ahead.closed (g.B.SpanSource.rest l.closed)));
  written : l.printer.progress.written + l.room ≡ l.fn.printer.progress.written + most_direction_bytes;
  lines : l.printer.progress.lines + length (by_from (with_ahead l.ahead.opened (g.A.SpanSource.rest l.opened))
      (with_ahead l.ahead.closed (g.B.SpanSource.rest l.closed)))
      ≤ l.fn.printer.progress.lines + (length (g.A.SpanSource.rest l.fn.opened) + length (g.B.SpanSource.rest l.fn.closed));
  short : l.with_rows ≡ false → 80 * length (by_from (with_ahead l.ahead.opened (g.A.SpanSource.rest l.opened))
      (with_ahead l.ahead.closed (g.B.SpanSource.rest l.closed))) ≤ l.room;
  failures : g.O.Output.failure_count l.output ≡ g.O.Output.failure_count l.fn.output;
  carries : Carries (g.O.Output.taken l.fn.output) l.fn.printer.progress
      (map (line_with l.place.old.now l.place.new.now l.place.vehicle l.place.at.element l.place.at.direction l.with_rows)
      (by_from (g.A.SpanSource.rest l.fn.opened) (g.B.SpanSource.rest l.fn.closed)))
      (g.O.Output.taken l.output) l.printer.progress
      (map (line_with l.place.old.now l.place.new.now l.place.vehicle l.place.at.element l.place.at.direction l.with_rows)
      (by_from (with_ahead l.ahead.opened (g.A.SpanSource.rest l.opened))
      (with_ahead l.ahead.closed (g.B.SpanSource.rest l.closed))));
}

abbrev pub decreases-loop-change : goal.decreases-loop-change
decreases-loop-change g l = length (by_from (with_ahead l.ahead.opened (g.A.SpanSource.rest l.opened))
    (with_ahead l.ahead.closed (g.B.SpanSource.rest l.closed)))
