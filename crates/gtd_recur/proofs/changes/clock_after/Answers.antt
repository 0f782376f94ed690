-- Between the first and the last start of a day, the next comes one step after the latest.
use Rattle.gtd_recur.specs.Begins.{begins_at}
use Rattle.gtd_recur.proofs.ChangeLemmas.{clock-step}
use Rattle.gtd_recur.proofs.changes.clock_after.Goals as goal

pub returns-then-latest-clocks : goal.returns-then-latest-clocks
returns-then-latest-clocks c = record {
  next = clock-step (begins_at c.args.start.now) c.day_clocks-clocks.result.first c.day_clocks-clocks.result.last
      c.day_clocks-clocks.result.step c.args.clock c.in-Some.latest c.day_clocks-clocks.ensures.clocks c.in-Some.ensures
      c.if-latest-clocks.true;
}
