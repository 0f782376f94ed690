-- Whatever the taker does with the spans that are still to come, it does with all of them.
use Rattle.std.proofs.Common.{◌≡◌, length}
use Rattle.gtd_eval.specs.Nodes.{node_list, node_whole, node_shape, IsSoundNode}
use Rattle.gtd_eval.specs.Taking.{CarriesOn}
use Rattle.gtd_eval.proofs.taking.each_next.Given as goal

abbrev pub invariant-loop-node : goal.invariant-loop-node
invariant-loop-node g l = record {
  sound : IsSoundNode g.L.Leaf l.node;
  carries : CarriesOn g.T.SpanTaker.takes (node_list g.L.Leaf l.node) l.into l.taker
      (node_list g.L.Leaf l.initial.node) l.initial.into l.initial.taker;
  ready : g.T.SpanTaker.is_ready l.into l.taker (node_list g.L.Leaf l.node);
  shape : node_shape g.L.Leaf l.node ≡ node_shape g.L.Leaf l.initial.node;
  whole : node_whole g.L.Leaf l.node ≡ node_whole g.L.Leaf l.initial.node;
}

abbrev pub decreases-loop-node : goal.decreases-loop-node
decreases-loop-node g l = length (node_list g.L.Leaf l.node)
