use Rattle.std.proofs.Common.{◌≡◌}
use Rattle.std.specs.Io.KnownBytes.{Keeps}
use Rattle.gtd_devices.proofs.host_out.HostOut.put_again.Given as goal

-- an interrupted write took nothing
abbrev pub invariant-loop : goal.invariant-loop
invariant-loop g l = record {
  bytes : Keeps (g.W.Write.contents l.fn.self.writer) (g.W.Write.contents l.self.writer);
  ended : l.self.ended ≡ l.fn.self.ended;
  failures : l.self.failures ≡ l.fn.self.failures;
}
