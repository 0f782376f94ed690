-- a read that found the pipe not ready took nothing
use Rattle.std.specs.Io.KnownBytes.{Keeps}
use Rattle.gtd_devices.proofs.waiting.WaitingRead.read.Given as goal

abbrev pub invariant-loop : goal.invariant-loop
invariant-loop g l = Keeps (g.R.Read.remaining l.fn.self.source) (g.R.Read.remaining l.self.source)
