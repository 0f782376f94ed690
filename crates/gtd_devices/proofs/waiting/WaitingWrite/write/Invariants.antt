-- a call that found the pipe not ready took nothing
use Rattle.std.specs.Io.KnownBytes.{Keeps}
use Rattle.gtd_devices.proofs.waiting.WaitingWrite.write.Given as goal

abbrev pub invariant-loop : goal.invariant-loop
invariant-loop g l = Keeps (g.W.Write.contents l.fn.self.source) (g.W.Write.contents l.self.source)
