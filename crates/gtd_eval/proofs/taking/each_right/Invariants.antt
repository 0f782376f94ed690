-- The sweep stays as it is, and whatever the taker does with the spans that it still has to give, it does with all of them.
use Rattle.std.proofs.Common.{◌≡◌, ◌≤◌, length}
use Rattle.gtd_spans.specs.Sweeping.{Fits, still}
use Rattle.gtd_eval.specs.Nodes.{node_list, node_whole, node_shape, IsSoundNode}
use Rattle.gtd_eval.specs.Taking.{CarriesOn}
use Rattle.gtd_eval.proofs.taking.each_right.Given as goal

abbrev pub invariant-loop-right : goal.invariant-loop-right
invariant-loop-right g l = record {
  sound : IsSoundNode g.L.Leaf l.right;
  sweep : l.sweep ≡ l.initial.sweep;
  fits : Fits l.sweep (node_list g.L.Leaf l._left) (node_list g.L.Leaf l.right);
  carries : CarriesOn g.T.SpanTaker.takes (still l.sweep (node_list g.L.Leaf l._left) (node_list g.L.Leaf l.right)) l.into l.taker
      (still l.initial.sweep (node_list g.L.Leaf l._left) (node_list g.L.Leaf l.initial.right)) l.initial.into l.initial.taker;
  ready : g.T.SpanTaker.is_ready l.into l.taker (still l.sweep (node_list g.L.Leaf l._left) (node_list g.L.Leaf l.right));
  fewer : length (node_list g.L.Leaf l.right) ≤ length (node_list g.L.Leaf l.initial.right);
  no_more : length (still l.sweep (node_list g.L.Leaf l._left) (node_list g.L.Leaf l.right))
      ≤ length (still l.initial.sweep (node_list g.L.Leaf l._left) (node_list g.L.Leaf l.initial.right));
  shape : node_shape g.L.Leaf l.right ≡ node_shape g.L.Leaf l.initial.right;
  whole : node_whole g.L.Leaf l.right ≡ node_whole g.L.Leaf l.initial.right;
}

abbrev pub decreases-loop-right : goal.decreases-loop-right
decreases-loop-right g l = length (node_list g.L.Leaf l.right)
