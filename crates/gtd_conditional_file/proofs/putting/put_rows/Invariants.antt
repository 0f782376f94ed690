use Rattle.std.proofs.Common.{◌≡◌, ◌≤◌, ◌+◌, ◌*◌, take}
use Rattle.gtd_conditional_file.proofs.PutFacts.{PutSoFar}
use Rattle.gtd_conditional_file.proofs.putting.put_rows.Given as goal

-- the lines of the rows so far were put
abbrev pub invariant-loop-row : goal.invariant-loop-row
invariant-loop-row g l = record {
  puts : PutSoFar (g.O.Output.taken l.fn.output) (g.O.Output.taken l.output) l.fn.progress l.progress
      (take l.row-index l.rows);
  written : l.progress.written ≤ 34 + 16384 * l.row-index;
  lines : l.progress.lines ≤ 1 + l.row-index;
  failures : g.O.Output.failure_count l.output ≡ g.O.Output.failure_count l.fn.output;
}
