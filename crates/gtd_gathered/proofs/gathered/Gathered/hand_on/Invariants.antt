use Rattle.std.proofs.Common.{◌-◌, ◌≡◌}
use Rattle.std.specs.Io.KnownBytes.{Keeps, append_known}
use Rattle.gtd_gathered.specs.Gathering.{between}
use Rattle.gtd_gathered.proofs.gathered.Gathered.hand_on.Given as goal

-- what was handed on was gathered
abbrev pub invariant-loop-self : goal.invariant-loop-self
invariant-loop-self g l = record {
  bytes : Keeps
      (append_known (g.O.Output.taken l.fn.self.inner) (between l.fn.self.from l.fn.self.until l.fn.self.bytes.now))
      (append_known (g.O.Output.taken l.self.inner) (between l.self.from l.self.until l.self.bytes.now));
  failures : g.O.Output.failure_count l.self.inner ≡ g.O.Output.failure_count l.fn.self.inner;
}

abbrev pub decreases-loop-self : goal.decreases-loop-self
decreases-loop-self g l = l.self.until - l.self.from
