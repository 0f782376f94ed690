use Rattle.std.proofs.Common.{◌≡◌, ◌≤◌, ◌+◌, ◌*◌, take, map}
use Rattle.std.specs.Prelude.{Ok}
use Rattle.gtd_report.specs.Putting.{Puts}
use Rattle.gtd_migrate.specs.Migrated.{row_line}
use Rattle.gtd_migrate.proofs.run.put_rows.Given as goal

-- the lines of the rows so far were put
abbrev pub invariant-loop-row : goal.invariant-loop-row
invariant-loop-row g l = record {
  puts : Puts (Ok tt) (g.O.Output.taken l.fn.output) (g.O.Output.taken l.output) l.fn.printer.progress l.printer.progress
      (map row_line (take l.row-index l.rows));
  written : l.printer.progress.written ≤ 34 + 16384 * l.row-index;
  lines : l.printer.progress.lines ≤ 1 + l.row-index;
  failures : g.O.Output.failure_count l.output ≡ g.O.Output.failure_count l.fn.output;
}
