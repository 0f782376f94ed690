-- Each span that is pushed begins no earlier than the latest start so far, so the list stays in order.
use Rattle.std.proofs.Common.{arith}
use Rattle.std.proofs.lemmas.Int.{ints}
use Rattle.gtd_test_layers.proofs.Latest.{none-after}
use Rattle.gtd_test_layers.proofs.lists.list_of.Goals as goal

pub push_start-requires : goal.push_start-requires
push_start-requires g c = record {
  order = none-after c.loop-from.latest.0 c.expect-span.result.from c.loop-from.list
      (omega (arith, ints, c.from-from.ensures.value)) c.loop-from.invariant;
}

pub loop-from-preserved : goal.loop-from-preserved
loop-from-preserved g c = rw c.from-from.ensures.value c.in_ok-push_start.ensures.order
