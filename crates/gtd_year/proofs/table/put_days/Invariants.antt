use Rattle.std.proofs.Common.{◌≡◌, take}
use Rattle.std.specs.Prelude.{Ok}
use Rattle.gtd_report.specs.Putting.{Puts}
use Rattle.gtd_year.specs.Counts.{count_lines}
use Rattle.gtd_year.proofs.table.put_days.Given as goal

-- the lines of the days so far were put
abbrev pub invariant-loop-place : goal.invariant-loop-place
invariant-loop-place g l = record {
  puts : Puts (Ok tt) (g.O.Output.taken l.fn.output) (g.O.Output.taken l.output) l.fn.printer.progress l.printer.progress
      (count_lines l.first (take l.place l.counts));
  failures : g.O.Output.failure_count l.output ≡ g.O.Output.failure_count l.fn.output;
}
