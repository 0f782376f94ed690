-- The span that is added begins no earlier than any before it, so it may be joined to the last one.
use Rattle.std.proofs.Common.{arith}
use Rattle.std.proofs.lemmas.Int.{ints}
use Rattle.gtd_test_layers.proofs.Latest.{none-after}
use Rattle.gtd_test_layers.proofs.without_memory.join.Goals as goal

pub push_start-requires : goal.push_start-requires
push_start-requires g c = record {
  order = none-after c.args.latest.0 c.expect-span.result.from c.args.list.now
      (omega (arith, ints, c.from-from.ensures.value)) c.requires.order;
}
