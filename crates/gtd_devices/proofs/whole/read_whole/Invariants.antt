use Rattle.std.proofs.Common.{◌≡◌, ◌<◌, ◌≤◌, length, IsTrue, ◌+◌, ◌*◌, ◌-◌}
use Rattle.std.specs.Io.KnownBytes.{Consumes}
use Rattle.gtd_devices.proofs.whole.read_whole.Given as goal

-- the bytes so far were taken off those to come, and what was silent may be
abbrev pub invariant-loop-silent : goal.invariant-loop-silent
invariant-loop-silent g l = record {
  told : Consumes (g.I.Input.to_come l.fn.input) (g.I.Input.to_come l.input) l.bytes.items;
  few : length l.bytes.items ≤ l.most;
  turns : l.silent ≤ 1000;
  silence : 0 < l.silent → IsTrue (g.I.Input.may_fall_silent l.fn.input);
  as_silent : g.I.Input.may_fall_silent l.input ≡ g.I.Input.may_fall_silent l.fn.input;
  failures : g.I.Input.failure_count l.input ≡ g.I.Input.failure_count l.fn.input;
}

-- a pull that gives bytes leaves fewer to the limit, and one that gives none leaves fewer such pulls
abbrev pub decreases-loop-silent : goal.decreases-loop-silent
decreases-loop-silent g l = 1001 * (l.most - length l.bytes.items) + (1000 - l.silent)
