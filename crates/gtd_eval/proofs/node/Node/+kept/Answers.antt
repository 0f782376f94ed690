-- Each period keeps at most 4,096 spans, and there are no more periods than nodes, so the sum stays below 2^64.
use Rattle.std.proofs.Common.{arith}
use Rattle.gtd_eval.specs.facts.NodeFacts.{node_kept-le, node_periods-le}
use Rattle.gtd_eval.proofs.node.Node.+kept.Goals as goal

pub overflow_add-result : goal.overflow_add-result
overflow_add-result g t c =
    let few = node_kept-le g.L.Leaf g.met.L.Leaf.keeps_few in
    let periods = node_periods-le g.L.Leaf g.met.L.Leaf.has_few in
    grind (
      arith,
      few c.in-Two.both.value.0,
      few c.in-Two.both.value.1,
      periods c.in-Two.both.value.0,
      periods c.in-Two.both.value.1,
    )
