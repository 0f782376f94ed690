-- No span of the list begins after the one that is pushed next, which is why it may be pushed.
use Rattle.std.proofs.Common.{arith}
use Rattle.std.proofs.lemmas.Int.{ints}
use Rattle.gtd_test_layers.proofs.Latest.{none-after}
use Rattle.gtd_test_layers.proofs.refusals.spans_that_are_pushed.Goals as goal

pub push-requires : goal.push-requires
push-requires g c = record {
  order = none-after c.loop-from.latest.0 c.expect-span.result.from c.loop-from.list
      (omega (arith, ints, c.from-from.ensures.value)) c.loop-from.invariant;
}

pub loop-from-preserved : goal.loop-from-preserved
loop-from-preserved g c = rw c.from-from.ensures.value c.push.ensures.order
