-- The sweep stays as it is, and whatever the taker does with the spans that it still has to give, it does with all of them.
use Rattle.std.proofs.Common.{◌≡◌, ◌≤◌, length}
use Rattle.gtd_spans.specs.Sweeping.{Fits, still}
use Rattle.gtd_eval.specs.Nodes.{node_list, node_whole, node_shape, IsSoundNode}
use Rattle.gtd_eval.specs.Taking.{CarriesOn}
use Rattle.gtd_eval.proofs.taking.each_left.Given as goal

abbrev pub invariant-loop-left : goal.invariant-loop-left
invariant-loop-left g l = record {
  sound : IsSoundNode g.L.Leaf l.left;
  sweep : l.sweep ≡ l.initial.sweep;
  fits : Fits l.sweep (node_list g.L.Leaf l.left) (node_list g.L.Leaf l._right);
  carries : CarriesOn g.T.SpanTaker.takes (still l.sweep (node_list g.L.Leaf l.left) (node_list g.L.Leaf l._right)) l.into l.taker
      (still l.initial.sweep (node_list g.L.Leaf l.initial.left) (node_list g.L.Leaf l._right)) l.initial.into l.initial.taker;
  ready : g.T.SpanTaker.is_ready l.into l.taker (still l.sweep (node_list g.L.Leaf l.left) (node_list g.L.Leaf l._right));
  fewer : length (node_list g.L.Leaf l.left) ≤ length (node_list g.L.Leaf l.initial.left);
  no_more : length (still l.sweep (node_list g.L.Leaf l.left) (node_list g.L.Leaf l._right))
      ≤ length (still l.initial.sweep (node_list g.L.Leaf l.initial.left) (node_list g.L.Leaf l._right));
  shape : node_shape g.L.Leaf l.left ≡ node_shape g.L.Leaf l.initial.left;
  whole : node_whole g.L.Leaf l.left ≡ node_whole g.L.Leaf l.initial.left;
}

abbrev pub decreases-loop-left : goal.decreases-loop-left
decreases-loop-left g l = length (node_list g.L.Leaf l.left)
