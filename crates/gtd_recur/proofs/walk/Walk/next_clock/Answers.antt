-- On the open day, the start after one that was handed out comes one step later, up to the last.
use Rattle.std.proofs.Common.{arith}
use Rattle.gtd_core.specs.Parts.{start_parts}
use Rattle.gtd_recur.specs.Begins.{begins_at}
use Rattle.gtd_recur.proofs.StepLemmas.{next-step}
use Rattle.gtd_recur.proofs.walk.Walk.next_clock.Goals as goal

pub returns-then-self-2 : goal.returns-then-self-2
returns-then-self-2 c =
    let s = c.args.self.now in
    record {
      next = next-step (begins_at (start_parts s.basic.start)) s.clocks.first s.clocks.last s.clocks.step s.clock s.clocked
          s.behind (omega (arith, c.if-self.false)) (omega (arith, c.if-self-2.true));
    }
