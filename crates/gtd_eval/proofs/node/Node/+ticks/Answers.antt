-- The ticks of each side are at most its work, which is small for each node, so the sum stays below 2^64.
use Rattle.std.proofs.Common.{arith}
use Rattle.gtd_eval.specs.facts.NodeFacts.{node_work-le}
use Rattle.gtd_eval.proofs.node.Node.+ticks.Goals as goal

pub overflow_add-result : goal.overflow_add-result
overflow_add-result g t c =
    grind (
      arith,
      node_work-le g.L.Leaf g.met.L.Leaf.is_small c.in-Two.both.value.0,
      node_work-le g.L.Leaf g.met.L.Leaf.is_small c.in-Two.both.value.1,
    )
