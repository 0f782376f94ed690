use Rattle.std.proofs.Common.{◌≡◌, ◌≤◌, ◌-◌, length, take}
use Rattle.std.specs.Io.KnownBytes.{Appends}
use Rattle.gtd_report.proofs.output.put_all.Given as goal

-- the output took the first bytes, so many
abbrev pub invariant-loop-taken : goal.invariant-loop-taken
invariant-loop-taken g l = record {
  within : l.taken ≤ length l.bytes;
  bytes : Appends (g.O.Output.taken l.fn.output) (g.O.Output.taken l.output) (take l.taken l.bytes);
  failures : g.O.Output.failure_count l.output ≡ g.O.Output.failure_count l.fn.output;
}

abbrev pub decreases-loop-taken : goal.decreases-loop-taken
decreases-loop-taken g l = length l.bytes - l.taken
